-- The bytes of Buffers.
use Rattle.std.proofs.Common.{◌≡◌, ℕ, zero, suc, ◌+◌, ◌<◌, ◌≤◌, List, [], ◌∷◌, ◌++◌, length, get_or, take, drop, Option, Some, None, append_assoc, append-nil, refl, sym, ap, ◌∙◌, arith}
use Rattle.std.specs.Prelude.{slice_get}
use Rattle.std.proofs.Math.Seq.{take-suc}
use Rattle.asl_tree.specs.declared.term.Node.{Node}
use Rattle.term_plans.specs.Plans.{plan_of, plans_of, plan_at}
use Rattle.statement_checks.proofs.Walk.{plans_at, no_more}
use Rattle.switch_checks.specs.Values.{trimmed, trimmed_before, byte_of, alone_bytes, each_byte, buffer_bytes, size_in}

abbrev or_node : Node → Option Node → Node
or_node node None = node
or_node node (Some other) = other

pub size_none : (ns : List Node) → slice_get ns 0 ≡ None → size_in (plan_at (plans_of ns) 0) ≡ None
unfolding plans_of
size_none [] e = refl
size_none (node ∷ ns) e = absurd (grind arith)

pub size_there : (ns : List Node) (node : Node) → slice_get ns 0 ≡ Some node → size_in (plan_at (plans_of ns) 0) ≡ size_in (plan_of node.term)
unfolding plans_of
size_there [] node e = absurd (grind arith)
size_there (n ∷ ns) node e = ap (λ o. size_in (plan_of (or_node n o).term)) e

-- ---- what is listed

pub one_listed : (ns : List Node) (node : Node) → length ns ≡ 1 → node ≡ get_or ns 0 node → alone_bytes (plan_of node.term) ≡ buffer_bytes (plans_of ns)
unfolding plans_of
one_listed [] node one e = absurd (omega (arith, one))
one_listed (n ∷ []) node one e = ap (λ (m : Node). alone_bytes (plan_of m.term)) e
one_listed (n ∷ m ∷ ns) node one e = absurd (omega (arith, one))

pub others_listed : (ns : List Node) → (length ns ≡ 1 → ⊥) → each_byte (plans_of ns) ≡ buffer_bytes (plans_of ns)
unfolding plans_of
others_listed [] others = refl
others_listed (n ∷ []) others = absurd (others refl)
others_listed (n ∷ m ∷ ns) others = refl

-- some first bytes are listed, and those behind them are not yet
abbrev pub BytesLeft : List Node → ℕ → List ℕ → Type 0
BytesLeft ns i now = now ++ each_byte (plans_of (drop i ns)) ≡ each_byte (plans_of ns)

pub next_byte : (ns : List Node) (i : ℕ) (node : Node) (now next : List ℕ) → i < length ns → node ≡ get_or ns i node → BytesLeft ns i now → next ≡ now ++ byte_of (plan_of node.term) ∷ [] → BytesLeft ns (i + 1) next
next_byte ns i node now next lt e before pushed =
    let more : i + 1 ≡ suc i = omega arith in
    ap (λ k. next ++ each_byte (plans_of (drop k ns))) more
    ∙ ap (λ bs. bs ++ each_byte (plans_of (drop (suc i) ns))) pushed
    ∙ append_assoc now (byte_of (plan_of node.term) ∷ []) (each_byte (plans_of (drop (suc i) ns)))
    ∙ ap (λ ps. now ++ each_byte ps) (sym (plans_at ns i node lt e))
    ∙ before

pub all_bytes : (ns : List Node) (i : ℕ) (now : List ℕ) → length ns ≤ i → BytesLeft ns i now → now ≡ each_byte (plans_of ns)
all_bytes ns i now le before = sym (append-nil now) ∙ ap (λ ps. now ++ each_byte ps) (sym (no_more ns i le)) ∙ before

-- ---- zeros at the end

pub trimmed_end : (xs : List ℕ) → trimmed (xs ++ 0 ∷ []) ≡ trimmed xs
trimmed_end [] = refl
trimmed_end (x ∷ xs) = ap (trimmed_before x) (trimmed_end xs)

longer : (x y : ℕ) (ys : List ℕ) → trimmed_before x (y ∷ ys) ≡ x ∷ y ∷ ys
longer zero y ys = refl
longer (suc x) y ys = refl

trimmed_whole : (xs : List ℕ) (b : ℕ) → (b ≡ 0 → ⊥) → trimmed (xs ++ b ∷ []) ≡ xs ++ b ∷ []
trimmed_whole [] zero some = absurd (some refl)
trimmed_whole [] (suc b) some = refl
trimmed_whole (x ∷ []) b some = ap (trimmed_before x) (trimmed_whole [] b some) ∙ longer x b []
trimmed_whole (x ∷ y ∷ xs) b some = ap (trimmed_before x) (trimmed_whole (y ∷ xs) b some) ∙ longer x y (xs ++ b ∷ [])

module _ (xs : List ℕ) where
  -- only zeros stand behind the first so many
  abbrev pub Enough : ℕ → Type 0
  Enough count = (count ≤ length xs) × (trimmed (take count xs) ≡ trimmed xs)

  take_all : (ys : List ℕ) → take (length ys) ys ≡ ys
  take_all [] = refl
  take_all (y ∷ ys) = ap (λ zs. y ∷ zs) (take_all ys)

  pub enough_all : Enough (length xs)
  enough_all = (omega arith, ap trimmed (take_all xs))

  taken : (j d : ℕ) → suc j ≤ length xs → trimmed (take (suc j) xs) ≡ trimmed (take j xs ++ (get_or xs j d ∷ []))
  taken j d le = ap trimmed (take-suc xs j d (omega (arith, le)))

  pub enough_less : (count j d : ℕ) → count ≡ suc j → get_or xs j d ≡ 0 → Enough count → Enough j
  enough_less count j d e zero_there h =
      let le : suc j ≤ length xs = omega (arith, e, h.0) in
      (omega (arith, le), sym (trimmed_end (take j xs)) ∙ ap (λ b. trimmed (take j xs ++ b ∷ [])) (sym zero_there) ∙ sym (taken j d le) ∙ ap (λ k. trimmed (take k xs)) (sym e) ∙ h.1)

  pub enough_here : (count j d : ℕ) → count ≡ suc j → (get_or xs j d ≡ 0 → ⊥) → Enough count → take count xs ≡ trimmed xs
  enough_here count j d e some h =
      let le : suc j ≤ length xs = omega (arith, e, h.0) in
      let split = take-suc xs j d (omega (arith, le)) in
      ap (λ k. take k xs) e ∙ split ∙ sym (trimmed_whole (take j xs) (get_or xs j d) some) ∙ ap trimmed (sym split) ∙ ap (λ k. trimmed (take k xs)) (sym e) ∙ h.1

  pub enough_none : (count : ℕ) → count ≡ 0 → Enough count → take count xs ≡ trimmed xs
  enough_none count e h = ap (λ k. take k xs) e ∙ sym (ap (λ k. trimmed (take k xs)) e) ∙ h.1
