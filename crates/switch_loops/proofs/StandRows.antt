-- The Locals that stand in terms are no fewer than those that the terms name.
use Rattle.std.proofs.Common.{◌≡◌, ◌≤◌, ◌<◌, ℕ, zero, suc, ◌+◌, Bool, true, false, List, [], ◌∷◌, ◌++◌, length, drop, get_or, Vec, Global, refl, sym, ap, subst, ◌∙◌, arith}
use Rattle.std.specs.Prelude.{◌||◌, not, if◌then◌else◌, nat_eq, nat_le, nat_lt, min, filter}
use Rattle.std.proofs.lemmas.Bool.Decides.{nat_tests}
use Rattle.acpi_values.specs.Operators.{Letter, row_of}
use Rattle.acpi_values.specs.Operators as L
use Rattle.asl_tree.specs.declared.path.Path.{Path}
use Rattle.asl_tree.specs.declared.term.Op.{Op}
use Rattle.asl_tree.specs.declared.term.Node.{Node}
use Rattle.asl_tree.specs.declared.term.Term as D
use Rattle.asl_tree.specs.Tree.{At, Trees, no_trees, tree}
use Rattle.asl_tree.specs.View.{tree_of, trees_of}
use Rattle.acpi_names.specs.Walked.{node_tree}
use Rattle.acpi_names.proofs.Telling.{trees_at, no_more}
use Rattle.acpi_names.proofs.Trees.{form_tree, call_tree}
use Rattle.hidden_locals.specs.Locals.{is_named, locals, locals_all}
use Rattle.hidden_locals.specs.Turns.{others}
use Rattle.hidden_locals.specs.Switches.{depth_all, are_crossed, is_enough}
use Rattle.switch_loops.specs.Measures.{measured, suffices}
use Rattle.switch_loops.specs.Reads.{Marks, marked, none_named, is_marked, operand_locals, form_locals, reads_of, others_of}
use Rattle.switch_loops.specs.declared.locals.Reads.{Reads}
use Rattle.switch_loops.specs.declared.measure.Measure.{Measure}
use Rattle.switch_loops.proofs.LocalRows.{named_form}
use Rattle.switch_loops.proofs.Marks.{one_marked, marked_length, few_others}
use Rattle.switch_loops.proofs.NamedNodes.{local_is, no_locals}

-- ---- the Locals of a list beside those of another

left_or : (b c : Bool) → b ≡ true → (b || c) ≡ true
left_or true c e = refl
left_or false c e = absurd cc

right_or : (b c : Bool) → c ≡ true → (b || c) ≡ true
right_or true c e = refl
right_or false c e = e

-- what follows of one or the other
of_either : (b c : Bool) (P : Type 0) → (b || c) ≡ true → (b ≡ true → P) → (c ≡ true → P) → P
of_either true c P e f g = f refl
of_either false c P e f g = g e

named_both : (xs ys : List ℕ) (i : ℕ) → is_named (xs ++ ys) i ≡ (is_named xs i || is_named ys i)
named_both [] ys i = refl
named_both (x ∷ xs) ys i = ap (λ b. nat_eq i x || b) (named_both xs ys i) ∙ or_assoc (nat_eq i x) (is_named xs i) (is_named ys i)
  where
    or_assoc : (a b c : Bool) → (a || (b || c)) ≡ ((a || b) || c)
    or_assoc true b c = refl
    or_assoc false b c = refl

of_both : (xs ys : List ℕ) (i : ℕ) (P : Type 0) → is_named (xs ++ ys) i ≡ true → (is_named xs i ≡ true → P) → (is_named ys i ≡ true → P) → P
of_both xs ys i P e f g = of_either (is_named xs i) (is_named ys i) P (sym (named_both xs ys i) ∙ e) f g

module _ (before : List Bool) where
  pub none_marked : Marks before [] before
  none_marked = record { size = refl; kept = λ i e. e; named = λ i lt e. absurd cc }

  -- the Locals of a part of those that are marked
  part_marked : (xs ys : List ℕ) (after : List Bool) → ((i : ℕ) → is_named ys i ≡ true → is_named xs i ≡ true) → Marks before xs after → Marks before ys after
  part_marked xs ys after less m = record { size = m.size; kept = m.kept; named = λ i lt e. m.named i lt (less i e) }

  both_marked : (xs ys : List ℕ) (first second : List Bool) → Marks before xs first → Marks first ys second → Marks before (xs ++ ys) second
  both_marked xs ys first second m n = record {
    size = n.size ∙ m.size;
    kept = λ i e. n.kept i (m.kept i e);
    named = λ i lt e. of_both xs ys i (is_marked second i ≡ true) e (λ h. n.kept i (m.named i lt h)) (λ h. let size = m.size in n.named i (omega (arith, size, lt)) h);
  }

-- ---- forms

operands_within : (letters : List Letter) (ts : Trees) (i : ℕ) → is_named (operand_locals letters ts) i ≡ true → is_named (locals_all ts) i ≡ true
operands_within [] no_trees i e = e
operands_within (letter ∷ letters) no_trees i e = e
operands_within [] (tree t ts) i e =
    of_both (locals t) (operand_locals [] ts) i (is_named (locals t ++ locals_all ts) i ≡ true) e
    (λ h. named_both (locals t) (locals_all ts) i ∙ left_or (is_named (locals t) i) (is_named (locals_all ts) i) h)
    (λ h. named_both (locals t) (locals_all ts) i ∙ right_or (is_named (locals t) i) (is_named (locals_all ts) i) (operands_within [] ts i h))
operands_within (L.Raw size ∷ letters) (tree t ts) i e = named_both (locals t) (locals_all ts) i ∙ right_or (is_named (locals t) i) (is_named (locals_all ts) i) (operands_within letters ts i e)
operands_within (letter ∷ letters) (tree t ts) i e =
    of_both (locals t) (operand_locals letters ts) i (is_named (locals t ++ locals_all ts) i ≡ true) e
    (λ h. named_both (locals t) (locals_all ts) i ∙ left_or (is_named (locals t) i) (is_named (locals_all ts) i) h)
    (λ h. named_both (locals t) (locals_all ts) i ∙ right_or (is_named (locals t) i) (is_named (locals_all ts) i) (operands_within letters ts i h))

form_within : (r : Reads) (args body : Trees) (i : ℕ) → is_named (form_locals r args body) i ≡ true → is_named (locals_all args ++ locals_all body) i ≡ true
form_within Reads.Nothing args body i e = absurd cc
form_within Reads.Arguments args body i e = named_both (locals_all args) (locals_all body) i ∙ left_or (is_named (locals_all args) i) (is_named (locals_all body) i) e
form_within (Reads.Operands op) args body i e =
    named_both (locals_all args) (locals_all body) i ∙ left_or (is_named (locals_all args) i) (is_named (locals_all body) i) (operands_within (row_of op).operands args i e)
form_within Reads.All args body i e = e

-- ---- terms

within : (named : List Bool) (i : ℕ) → is_marked named i ≡ true → i < length named
within [] zero e = absurd cc
within [] (suc i) e = absurd cc
within (b ∷ bs) zero e = omega arith
within (b ∷ bs) (suc i) e = let lt = within bs i e in omega (arith, lt)

one_there : (before : List Bool) (index : ℕ) → Marks before (index ∷ []) (marked before index)
one_there before index = record {
  size = marked_length before index;
  kept = λ i e. one_marked before index i (within before i e) ∙ right_or (nat_eq i index) (is_marked before i) e;
  named = λ i lt e. one_marked before index i lt ∙ left_or (nat_eq i index) (is_marked before i) (only (nat_eq i index) e);
}
  where
    only : (b : Bool) → (b || false) ≡ true → b ≡ true
    only true e = refl
    only false e = absurd cc

pub local_stands : (before after : List Bool) (node : Node) (index : ℕ) → node.term ≡ D.Local index → after ≡ marked before index → Marks before (locals (node_tree node)) after
local_stands before after node index e f =
    subst (λ ls. Marks before ls after) (sym (local_is (record { id = node.id; place = node.place }) node.term index e)) (subst (Marks before (index ∷ [])) (sym f) (one_there before index))

pub other_stands : (before : List Bool) (node : Node) → ((i : ℕ) → node.term ≡ D.Local i → ⊥) → ((p : Path) (v : Vec Node Global) → node.term ≡ D.Call p v → ⊥) → ((o : Op) (v w : Vec Node Global) → node.term ≡ D.Form o v w → ⊥) → Marks before (locals (node_tree node)) before
other_stands before node not_local not_call not_form = subst (λ ls. Marks before ls before) (sym (no_locals node not_local not_call not_form)) (none_marked before)

pub none_stands : (before : List Bool) (nodes : List Node) → length nodes ≡ 0 → Marks before (locals_all (trees_of nodes)) before
unfolding trees_of
none_stands before [] e = none_marked before
none_stands before (n ∷ ns) e = absurd (omega (arith, e))

pub call_stands : (before after : List Bool) (node : Node) (path : Path) (args : Vec Node Global) (nodes : List Node) → node.term ≡ D.Call path args → nodes ≡ args.items → Marks before (locals_all (trees_of nodes)) after → Marks before (locals (node_tree node)) after
call_stands before after node path args nodes e f m =
    subst (λ ls. Marks before ls after) (ap (λ ns. locals_all (trees_of ns)) f ∙ ap locals (sym (ap (tree_of (record { id = node.id; place = node.place })) e ∙ call_tree (record { id = node.id; place = node.place }) path args))) m

pub form_stands : (before first second : List Bool) (node : Node) (op : Op) (args body : Vec Node Global) (xs ys : List Node) → node.term ≡ D.Form op args body → xs ≡ args.items → ys ≡ body.items
    → Marks before (locals_all (trees_of xs)) first → Marks first (locals_all (trees_of ys)) second → Marks before (locals (node_tree node)) second
form_stands before first second node op args body xs ys e f g m n =
    let at : At = record { id = node.id; place = node.place } in
    let ts = trees_of args.items in
    let us = trees_of body.items in
    let both : Marks before (locals_all ts ++ locals_all us) second =
    both_marked before (locals_all ts) (locals_all us) first second (subst (λ ns. Marks before (locals_all (trees_of ns)) first) f m) (subst (λ ns. Marks first (locals_all (trees_of ns)) second) g n)
    in
    subst (λ ls. Marks before ls second) (sym (named_form at op ts us) ∙ ap locals (sym (ap (tree_of at) e ∙ form_tree at op args body)))
    (part_marked before (locals_all ts ++ locals_all us) (form_locals (reads_of op ts us) ts us) second (form_within (reads_of op ts us) ts us) both)

-- ---- nodes one after another

-- the Locals of some first nodes are marked
pub record Stands (before : List Bool) (nodes : List Node) (at : ℕ) (now : List Bool) : Type 0 where
  pub size : length now ≡ length before
  pub kept : (i : ℕ) → is_marked before i ≡ true → is_marked now i ≡ true
  pub named : (i : ℕ) → i < length before → is_named (locals_all (trees_of nodes)) i ≡ true → (is_marked now i || is_named (locals_all (trees_of (drop at nodes))) i) ≡ true

all_left : (nodes : List Node) → nodes ≡ drop 0 nodes
all_left [] = refl
all_left (n ∷ ns) = refl

pub none_stand : (before : List Bool) (nodes : List Node) → Stands before nodes 0 before
none_stand before nodes = record {
  size = refl;
  kept = λ i e. e;
  named = λ i lt e. right_or (is_marked before i) (is_named (locals_all (trees_of (drop 0 nodes))) i) (ap (λ ns. is_named (locals_all (trees_of ns)) i) (sym (all_left nodes)) ∙ e);
}

pub next_stands : (before now next : List Bool) (nodes : List Node) (at : ℕ) (node : Node) → at < length nodes → node ≡ get_or nodes at node → Marks now (locals (node_tree node)) next → Stands before nodes at now → Stands before nodes (at + 1) next
next_stands before now next nodes at node lt is m s =
    let more : suc at ≡ at + 1 = omega arith in
    let rest = locals_all (trees_of (drop (suc at) nodes)) in
    let left : locals_all (trees_of (drop at nodes)) ≡ locals (node_tree node) ++ rest = ap locals_all (trees_at nodes at node lt) ∙ ap (λ (n : Node). locals (node_tree n) ++ rest) (sym is) in
    let size = s.size in
    subst (λ k. Stands before nodes k next) more (record {
      size = m.size ∙ s.size;
      kept = λ i e. m.kept i (s.kept i e);
      named = λ i l e. of_either (is_marked now i) (is_named (locals_all (trees_of (drop at nodes))) i) ((is_marked next i || is_named rest i) ≡ true) (s.named i l e)
          (λ h. left_or (is_marked next i) (is_named rest i) (m.kept i h))
          (λ h. of_both (locals (node_tree node)) rest i ((is_marked next i || is_named rest i) ≡ true) (ap (λ ls. is_named ls i) (sym left) ∙ h)
          (λ k. left_or (is_marked next i) (is_named rest i) (m.named i (omega (arith, size, l)) k)) (λ k. right_or (is_marked next i) (is_named rest i) k));
    })

pub all_stand : (before now : List Bool) (nodes : List Node) (at : ℕ) → length nodes ≤ at → Stands before nodes at now → Marks before (locals_all (trees_of nodes)) now
all_stand before now nodes at le s = record {
  size = s.size;
  kept = s.kept;
  named = λ i lt e. of_either (is_marked now i) (is_named (locals_all (trees_of (drop at nodes))) i) (is_marked now i ≡ true) (s.named i lt e) (λ h. h)
      (λ h. none (is_marked now i) (ap (λ ts. is_named (locals_all ts) i) (sym (no_more nodes at le)) ∙ h));
}
  where
    none : (b : Bool) → false ≡ true → b ≡ true
    none b e = absurd cc

-- ---- Locals enough

fewer : (p q : ℕ → Bool) (xs : List ℕ) → ((i : ℕ) → i < 8 → p i ≡ true → q i ≡ true) → ((i : ℕ) → is_named xs i ≡ true → i < 8) → length (filter p xs) ≤ length (filter q xs)
fewer p q [] less small = omega arith
fewer p q (x ∷ xs) less small = by_test (p x) (q x) (λ e. less x (small x (here x xs)) e) (fewer p q xs less (λ i e. small i (right_or (nat_eq i x) (is_named xs i) e)))
  where
    here : (x : ℕ) (xs : List ℕ) → is_named (x ∷ xs) x ≡ true
    here x xs = left_or (nat_eq x x) (is_named xs x) (grind (arith, nat_tests))

    by_test : (b c : Bool) → (b ≡ true → c ≡ true) → length (filter p xs) ≤ length (filter q xs) → length (if b then x ∷ filter p xs else filter p xs) ≤ length (if c then x ∷ filter q xs else filter q xs)
    by_test true true h le = omega (arith, le)
    by_test true false h le = absurd (none (h refl))
      where
        none : false ≡ true → ⊥
        none e = absurd cc
    by_test false true h le = omega (arith, le)
    by_test false false h le = le

not_before : (b c : Bool) → (c ≡ true → b ≡ true) → not b ≡ true → not c ≡ true
not_before true c h e = absurd cc
not_before false true h e = absurd (none (h refl))
  where
    none : false ≡ true → ⊥
    none e = absurd cc
not_before false false h e = refl

abbrev AreSmall : List ℕ → Type 0
AreSmall [] = Unit {0}
AreSmall (x ∷ xs) = (x < 8) × AreSmall xs

small_ones : (xs : List ℕ) → AreSmall xs → (i : ℕ) → is_named xs i ≡ true → i < 8
small_ones [] small i e = absurd (none e)
  where
    none : false ≡ true → ⊥
    none e = absurd cc
small_ones (x ∷ xs) small i e =
    of_either (nat_eq i x) (is_named xs i) (i < 8) e (λ h. let same : i ≡ x = grind (arith, nat_tests, h) in let lt = small.0 in omega (arith, same, lt)) (λ h. small_ones xs small.1 i h)

all_small : AreSmall (0 ∷ 1 ∷ 2 ∷ 3 ∷ 4 ∷ 5 ∷ 6 ∷ 7 ∷ [])
all_small = (omega arith, (omega arith, (omega arith, (omega arith, (omega arith, (omega arith, (omega arith, (omega arith, tt))))))))

fewer_left : (ls : List ℕ) (named : List Bool) → Marks none_named ls named → length (others_of named) ≤ length (others ls)
fewer_left ls named m =
    fewer (λ i. not (is_marked named i)) (λ i. not (is_named ls i)) (0 ∷ 1 ∷ 2 ∷ 3 ∷ 4 ∷ 5 ∷ 6 ∷ 7 ∷ []) (λ i lt e. not_before (is_marked named i) (is_named ls i) (m.named i lt) e)
    (small_ones (0 ∷ 1 ∷ 2 ∷ 3 ∷ 4 ∷ 5 ∷ 6 ∷ 7 ∷ []) all_small)

-- what is enough of fewer Locals is enough
pub enough_standing : (body : Trees) (found : Measure) (named : List Bool) (left : ℕ) → found ≡ measured body → Marks none_named (locals_all body) named → left ≡ length (others_of named) → suffices found left ≡ true → is_enough body ≡ true
enough_standing body found named left em m el s = by_crossed (are_crossed body) refl (ap (λ (f : Measure). suffices f left) (sym em) ∙ s)
  where
    less : length (others_of named) ≤ length (others (locals_all body))
    less = fewer_left (locals_all body) named m

    few : length (others (locals_all body)) ≤ 8
    few = few_others (locals_all body)

    by_crossed : (c : Bool) → are_crossed body ≡ c → (if c then nat_lt (min (depth_all body) 9) left else nat_le (min (depth_all body) 9) left) ≡ true → is_enough body ≡ true
    by_crossed true h s =
        let lt : min (depth_all body) 9 < left = grind (arith, nat_tests, s) in
        let le : depth_all body + 1 ≤ length (others (locals_all body)) = omega (arith, lt, el, less, few) in
        ap (λ b. nat_le (depth_all body + (if b then 1 else 0)) (length (others (locals_all body)))) h ∙ grind (arith, nat_tests, le)
    by_crossed false h s =
        let lt : min (depth_all body) 9 ≤ left = grind (arith, nat_tests, s) in
        let le : depth_all body + 0 ≤ length (others (locals_all body)) = omega (arith, lt, el, less, few) in
        ap (λ b. nat_le (depth_all body + (if b then 1 else 0)) (length (others (locals_all body)))) h ∙ grind (arith, nat_tests, le)
