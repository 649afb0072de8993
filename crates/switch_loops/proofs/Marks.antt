-- Marks of the Locals that are named.
use Rattle.std.proofs.Common.{◌≡◌, ◌≤◌, ◌<◌, ℕ, zero, suc, ◌+◌, Bool, true, false, List, [], ◌∷◌, ◌++◌, length, drop, get_or, Option, Some, None, refl, sym, ap, subst, ◌∙◌, arith, append_assoc}
use Rattle.std.specs.Prelude.{◌||◌, not, if◌then◌else◌, nat_eq, nat_le, nat_lt, min, filter, slice_get}
use Rattle.std.proofs.lemmas.Bool.Decides.{nat_tests}
use Rattle.asl_operators.specs.Letters.{letters_as}
use Rattle.asl_operators.specs.declared.letter.Letter.{Letter}
use Rattle.acpi_values.specs.Operators as L
use Rattle.asl_tree.specs.declared.term.Node.{Node}
use Rattle.asl_tree.specs.Tree.{Tree, Trees, no_trees, tree}
use Rattle.asl_tree.specs.View.{trees_of}
use Rattle.acpi_names.specs.Walked.{node_tree}
use Rattle.acpi_names.proofs.Telling.{trees_at, no_more}
use Rattle.hidden_locals.specs.Locals.{is_named, locals, locals_all}
use Rattle.hidden_locals.specs.Turns.{nth, others}
use Rattle.hidden_locals.specs.Switches.{depth_all, is_enough}
use Rattle.switch_loops.specs.Measures.{capped, measured, suffices}
use Rattle.switch_loops.specs.declared.measure.Measure.{Measure}
use Rattle.std.proofs.lemmas.List.{append-nil}
use Rattle.switch_loops.specs.Reads.{marked, marked_all, none_named, is_marked, letter_names, is_constant, operand_locals, others_of}

pub marked-append : (named : List Bool) (xs ys : List ℕ) → marked_all named (xs ++ ys) ≡ marked_all (marked_all named xs) ys
marked-append named [] ys = refl
marked-append named (x ∷ xs) ys = marked-append (marked named x) xs ys

-- ---- one mark

nat_eq_suc : (i j : ℕ) → nat_eq (suc i) (suc j) ≡ nat_eq i j
nat_eq_suc i j = by_same (nat_eq i j) refl
  where
    by_same : (c : Bool) → nat_eq i j ≡ c → nat_eq (suc i) (suc j) ≡ c
    by_same true h = grind (arith, nat_tests, h)
    by_same false h = grind (arith, nat_tests, h)

pub marked_length : (named : List Bool) (j : ℕ) → length (marked named j) ≡ length named
marked_length [] j = refl
marked_length (b ∷ bs) zero = refl
marked_length (b ∷ bs) (suc j) = ap suc (marked_length bs j)

pub one_marked : (named : List Bool) (j i : ℕ) → i < length named → is_marked (marked named j) i ≡ (nat_eq i j || is_marked named i)
one_marked [] j i lt = absurd (omega (arith, lt))
one_marked (b ∷ bs) zero zero lt = let e : true ≡ nat_eq 0 0 = grind (arith, nat_tests) in ap (λ c. c || b) e
one_marked (b ∷ bs) zero (suc i) lt = let e : false ≡ nat_eq (suc i) 0 = grind (arith, nat_tests) in ap (λ c. c || is_marked bs i) e
one_marked (b ∷ bs) (suc j) zero lt = let e : false ≡ nat_eq 0 (suc j) = grind (arith, nat_tests) in ap (λ c. c || b) e
one_marked (b ∷ bs) (suc j) (suc i) lt = one_marked bs j i (omega (arith, lt)) ∙ ap (λ c. c || is_marked bs i) (sym (nat_eq_suc i j))

or_turned : (a b c : Bool) → (b || (a || c)) ≡ ((a || b) || c)
or_turned true true c = refl
or_turned true false c = refl
or_turned false true c = refl
or_turned false false c = refl

all_marked : (named : List Bool) (ls : List ℕ) (i : ℕ) → i < length named → is_marked (marked_all named ls) i ≡ (is_named ls i || is_marked named i)
all_marked named [] i lt = refl
all_marked named (x ∷ xs) i lt =
    let k = marked_length named x in
    all_marked (marked named x) xs i (omega (arith, lt, k)) ∙ ap (λ c. is_named xs i || c) (one_marked named x i lt) ∙ or_turned (nat_eq i x) (is_named xs i) (is_marked named i)

or_false : (b : Bool) → (b || false) ≡ b
or_false true = refl
or_false false = refl

-- ---- the Locals that are not named

filter_step : (p q : ℕ → Bool) (x : ℕ) (xs : List ℕ) → p x ≡ q x → filter p xs ≡ filter q xs → filter p (x ∷ xs) ≡ filter q (x ∷ xs)
filter_step p q x xs e h = ap (λ c. if c then x ∷ filter p xs else filter p xs) e ∙ ap (λ ys. if q x then x ∷ ys else ys) h

pub others_are : (ls : List ℕ) → others_of (marked_all none_named ls) ≡ others ls
others_are ls =
    step 0 (1 ∷ 2 ∷ 3 ∷ 4 ∷ 5 ∷ 6 ∷ 7 ∷ []) (at 0 (omega arith) refl) (step 1 (2 ∷ 3 ∷ 4 ∷ 5 ∷ 6 ∷ 7 ∷ []) (at 1 (omega arith) refl) (step 2 (3 ∷ 4 ∷ 5 ∷ 6 ∷ 7 ∷ []) (at 2 (omega arith) refl)
    (step 3 (4 ∷ 5 ∷ 6 ∷ 7 ∷ []) (at 3 (omega arith) refl) (step 4 (5 ∷ 6 ∷ 7 ∷ []) (at 4 (omega arith) refl) (step 5 (6 ∷ 7 ∷ []) (at 5 (omega arith) refl) (step 6 (7 ∷ []) (at 6 (omega arith) refl) (step 7 [] (at 7 (omega arith) refl) refl)))))))
  where
    step : (x : ℕ) (xs : List ℕ) → not (is_marked (marked_all none_named ls) x) ≡ not (is_named ls x) → filter (λ i. not (is_marked (marked_all none_named ls) i)) xs ≡ filter (λ i. not (is_named ls i)) xs
        → filter (λ i. not (is_marked (marked_all none_named ls) i)) (x ∷ xs) ≡ filter (λ i. not (is_named ls i)) (x ∷ xs)
    step x xs e h = filter_step (λ i. not (is_marked (marked_all none_named ls) i)) (λ i. not (is_named ls i)) x xs e h

    at : (i : ℕ) → i < 8 → is_marked none_named i ≡ false → not (is_marked (marked_all none_named ls) i) ≡ not (is_named ls i)
    at i lt e = ap not (all_marked none_named ls i (omega (arith, lt)) ∙ ap (λ c. is_named ls i || c) e ∙ or_false (is_named ls i))

kept_length : (p : ℕ → Bool) (xs : List ℕ) → length (filter p xs) ≤ length xs
kept_length p [] = omega arith
kept_length p (x ∷ xs) = by_test (p x) (kept_length p xs)
  where
    by_test : (c : Bool) → length (filter p xs) ≤ length xs → length (if c then x ∷ filter p xs else filter p xs) ≤ suc (length xs)
    by_test true h = omega (arith, h)
    by_test false h = omega (arith, h)

pub others_length : (named : List Bool) → length (others_of named) ≤ 8
others_length named = let h = kept_length (λ i. not (is_marked named i)) (0 ∷ 1 ∷ 2 ∷ 3 ∷ 4 ∷ 5 ∷ 6 ∷ 7 ∷ []) in omega (arith, h)

-- ---- nine levels stand for all that are more

nth_far : (xs : List ℕ) (i : ℕ) → length xs ≤ i → nth xs i ≡ 0
nth_far [] i le = refl
nth_far (x ∷ xs) zero le = absurd (omega (arith, le))
nth_far (x ∷ xs) (suc i) le = nth_far xs i (omega (arith, le))

pub nth_capped : (xs : List ℕ) (n : ℕ) → length xs ≤ 8 → nth xs (capped n) ≡ nth xs n
nth_capped xs n le = by_far (nat_le n 9) refl
  where
    by_far : (c : Bool) → nat_le n 9 ≡ c → nth xs (capped n) ≡ nth xs n
    by_far true e = let le : n ≤ 9 = grind (arith, nat_tests, e) in let same : min n 9 ≡ n = omega (arith, le) in ap (nth xs) same
    by_far false e =
        let lt : 9 < n = grind (arith, nat_tests, e) in
        let same : min n 9 ≡ 9 = omega (arith, lt) in
        nth_far xs (min n 9) (omega (arith, le, same)) ∙ sym (nth_far xs n (omega (arith, le, lt)))

pub enough_crossed : (depth left most : ℕ) → most ≤ 8 → left ≡ most → nat_lt (capped depth) left ≡ nat_le (depth + 1) most
enough_crossed depth left most le e = by_test (nat_le (depth + 1) most) refl
  where
    by_test : (c : Bool) → nat_le (depth + 1) most ≡ c → nat_lt (capped depth) left ≡ c
    by_test true h = let lt : depth + 1 ≤ most = grind (arith, nat_tests, h) in let k : min depth 9 < left = omega (arith, lt, le, e) in grind (arith, nat_tests, k)
    by_test false h = let lt : most < depth + 1 = grind (arith, nat_tests, h) in let k : left ≤ min depth 9 = omega (arith, lt, le, e) in grind (arith, nat_tests, k)

pub enough_uncrossed : (depth left most : ℕ) → most ≤ 8 → left ≡ most → nat_le (capped depth) left ≡ nat_le (depth + 0) most
enough_uncrossed depth left most le e = by_test (nat_le (depth + 0) most) refl
  where
    by_test : (c : Bool) → nat_le (depth + 0) most ≡ c → nat_le (capped depth) left ≡ c
    by_test true h = let lt : depth + 0 ≤ most = grind (arith, nat_tests, h) in let k : min depth 9 ≤ left = omega (arith, lt, le, e) in grind (arith, nat_tests, k)
    by_test false h = let lt : most < depth + 0 = grind (arith, nat_tests, h) in let k : left < min depth 9 = omega (arith, lt, le, e) in grind (arith, nat_tests, k)

-- ---- nodes one after another

operand_suc : (letters : List Letter) (i : ℕ) (t : Tree) (ts : Trees)
    → operand_locals (drop i (letters_as letters)) (tree t ts) ≡ letter_names (is_constant (slice_get letters i)) t ++ operand_locals (drop (suc i) (letters_as letters)) ts
operand_suc [] zero t ts = refl
operand_suc [] (suc i) t ts = refl
operand_suc (letter ∷ letters) zero t ts = refl
operand_suc (letter ∷ letters) (suc i) t ts = operand_suc letters i t ts

pub operand_next : (letters : List Letter) (nodes : List Node) (i : ℕ) (node : Node) (found next : List Bool) (c : Bool) (whole : List Bool) → i < length nodes → node ≡ get_or nodes i node
    → c ≡ is_constant (slice_get letters i) → next ≡ marked_all found (letter_names c (node_tree node))
    → marked_all found (operand_locals (drop i (letters_as letters)) (trees_of (drop i nodes))) ≡ whole → marked_all next (operand_locals (drop (i + 1) (letters_as letters)) (trees_of (drop (i + 1) nodes))) ≡ whole
operand_next letters nodes i node found next c whole lt is k e h =
    let more : i + 1 ≡ suc i = omega arith in
    ap (λ n. marked_all next (operand_locals (drop n (letters_as letters)) (trees_of (drop n nodes)))) more
    ∙ ap (λ ns. marked_all ns (operand_locals (drop (suc i) (letters_as letters)) (trees_of (drop (suc i) nodes)))) e
    ∙ sym (marked-append found (letter_names c (node_tree node)) (operand_locals (drop (suc i) (letters_as letters)) (trees_of (drop (suc i) nodes))))
    ∙ ap (λ b. marked_all found (letter_names b (node_tree node) ++ operand_locals (drop (suc i) (letters_as letters)) (trees_of (drop (suc i) nodes)))) k
    ∙ ap (marked_all found) (sym (operand_suc letters i (node_tree node) (trees_of (drop (suc i) nodes))))
    ∙ ap (λ (n : Node). marked_all found (operand_locals (drop i (letters_as letters)) (tree (node_tree n) (trees_of (drop (suc i) nodes))))) is
    ∙ ap (λ ts. marked_all found (operand_locals (drop i (letters_as letters)) ts)) (sym (trees_at nodes i node lt)) ∙ h

pub list_next : (nodes : List Node) (i : ℕ) (node : Node) (found next whole : List Bool) → i < length nodes → node ≡ get_or nodes i node → next ≡ marked_all found (locals (node_tree node))
    → marked_all found (locals_all (trees_of (drop i nodes))) ≡ whole → marked_all next (locals_all (trees_of (drop (i + 1) nodes))) ≡ whole
list_next nodes i node found next whole lt is e h =
    let more : i + 1 ≡ suc i = omega arith in
    ap (λ n. marked_all next (locals_all (trees_of (drop n nodes)))) more
    ∙ ap (λ ns. marked_all ns (locals_all (trees_of (drop (suc i) nodes)))) e
    ∙ sym (marked-append found (locals (node_tree node)) (locals_all (trees_of (drop (suc i) nodes))))
    ∙ ap (λ (n : Node). marked_all found (locals_all (tree (node_tree n) (trees_of (drop (suc i) nodes))))) is
    ∙ ap (λ ts. marked_all found (locals_all ts)) (sym (trees_at nodes i node lt)) ∙ h

pub list_end : (nodes : List Node) (i : ℕ) (found whole : List Bool) → length nodes ≤ i → marked_all found (locals_all (trees_of (drop i nodes))) ≡ whole → found ≡ whole
list_end nodes i found whole le h = sym (ap (λ ts. marked_all found (locals_all ts)) (no_more nodes i le)) ∙ h

none_left : (letters : List L.Letter) → operand_locals letters no_trees ≡ []
none_left [] = refl
none_left (letter ∷ letters) = refl

pub operand_end : (letters : List Letter) (nodes : List Node) (i : ℕ) (found whole : List Bool) → length nodes ≤ i → marked_all found (operand_locals (drop i (letters_as letters)) (trees_of (drop i nodes))) ≡ whole → found ≡ whole
operand_end letters nodes i found whole le h =
    sym (ap (λ ts. marked_all found (operand_locals (drop i (letters_as letters)) ts)) (no_more nodes i le) ∙ ap (marked_all found) (none_left (drop i (letters_as letters)))) ∙ h

-- ---- the Local at a place

pub nth_found : (xs : List ℕ) (i x : ℕ) → slice_get xs i ≡ Some x → x ≡ nth xs i
nth_found [] i x e = absurd (grind arith)
nth_found (y ∷ ys) zero x e = ap (λ o. or_zero o) (sym e)
  where
    or_zero : Option ℕ → ℕ
    or_zero None = 0
    or_zero (Some x) = x
nth_found (y ∷ ys) (suc i) x e = nth_found ys i x e

pub nth_none : (xs : List ℕ) (i : ℕ) → slice_get xs i ≡ None → 0 ≡ nth xs i
nth_none [] i e = refl
nth_none (y ∷ ys) zero e = absurd (grind arith)
nth_none (y ∷ ys) (suc i) e = nth_none ys i e

-- ---- Locals one after another

abbrev pub all_locals : List ℕ
all_locals = 0 ∷ 1 ∷ 2 ∷ 3 ∷ 4 ∷ 5 ∷ 6 ∷ 7 ∷ []

-- those from one on that are not named
abbrev pub others_from : List Bool → ℕ → List ℕ
others_from named i = filter (λ i. not (is_marked named i)) (drop i all_locals)

all_at : (i : ℕ) → i < 8 → drop i all_locals ≡ i ∷ drop (i + 1) all_locals
all_at zero lt = refl
all_at (suc zero) lt = refl
all_at (suc (suc zero)) lt = refl
all_at (suc (suc (suc zero))) lt = refl
all_at (suc (suc (suc (suc zero)))) lt = refl
all_at (suc (suc (suc (suc (suc zero))))) lt = refl
all_at (suc (suc (suc (suc (suc (suc zero)))))) lt = refl
all_at (suc (suc (suc (suc (suc (suc (suc zero))))))) lt = refl
all_at (suc (suc (suc (suc (suc (suc (suc (suc i)))))))) lt = absurd (omega (arith, lt))

from_next : (named : List Bool) (i : ℕ) (c : Bool) → i < 8 → c ≡ is_marked named i → others_from named i ≡ (if not c then i ∷ others_from named (i + 1) else others_from named (i + 1))
from_next named i c lt e =
    ap (filter (λ i. not (is_marked named i))) (all_at i lt) ∙ ap (λ b. if not b then i ∷ others_from named (i + 1) else others_from named (i + 1)) (sym e)

pub from_named : (named : List Bool) (i : ℕ) (c : Bool) → i < 8 → c ≡ is_marked named i → c ≡ true → others_from named i ≡ others_from named (i + 1)
from_named named i c lt e k = from_next named i c lt e ∙ ap (λ b. if not b then i ∷ others_from named (i + 1) else others_from named (i + 1)) k

pub from_free : (named : List Bool) (i : ℕ) (c : Bool) → i < 8 → c ≡ is_marked named i → c ≡ false → others_from named i ≡ i ∷ others_from named (i + 1)
from_free named i c lt e k = from_next named i c lt e ∙ ap (λ b. if not b then i ∷ others_from named (i + 1) else others_from named (i + 1)) k

pub free_next : (named : List Bool) (i : ℕ) (old new total : List ℕ) → i < 8 → new ≡ old ++ (if is_marked named i then [] else i ∷ []) → old ++ others_from named i ≡ total → new ++ others_from named (i + 1) ≡ total
free_next named i old new total lt e h = by_mark (is_marked named i) refl
  where
    by_mark : (c : Bool) → is_marked named i ≡ c → new ++ others_from named (i + 1) ≡ total
    by_mark true k =
        ap (λ ns. ns ++ others_from named (i + 1)) (e ∙ ap (λ b. old ++ (if b then [] else i ∷ [])) k ∙ append-nil old) ∙ ap (λ ns. old ++ ns) (sym (from_named named i true lt (sym k) refl)) ∙ h
    by_mark false k =
        ap (λ ns. ns ++ others_from named (i + 1)) (e ∙ ap (λ b. old ++ (if b then [] else i ∷ [])) k) ∙ append_assoc old (i ∷ []) (others_from named (i + 1))
        ∙ ap (λ ns. old ++ ns) (sym (from_free named i false lt (sym k) refl)) ∙ h

pub count_next : (named : List Bool) (i count next total : ℕ) → i < 8 → next ≡ (if is_marked named i then count else count + 1) → count + length (others_from named i) ≡ total → next + length (others_from named (i + 1)) ≡ total
count_next named i count next total lt e h = by_mark (is_marked named i) refl
  where
    by_mark : (c : Bool) → is_marked named i ≡ c → next + length (others_from named (i + 1)) ≡ total
    by_mark true k =
        let n : next ≡ count = e ∙ ap (λ b. if b then count else count + 1) k in
        let l : length (others_from named i) ≡ length (others_from named (i + 1)) = ap length (from_named named i true lt (sym k) refl) in
        omega (arith, n, l, h)
    by_mark false k =
        let n : next ≡ count + 1 = e ∙ ap (λ b. if b then count else count + 1) k in
        let l : length (others_from named i) ≡ suc (length (others_from named (i + 1))) = ap length (from_free named i false lt (sym k) refl) in
        omega (arith, n, l, h)

pub few_counted : (named : List Bool) (i count : ℕ) → count + length (others_from named i) ≡ length (others_of named) → count ≤ 8
few_counted named i count h = let few = others_length named in omega (arith, few, h)

-- ---- Locals enough

pub few_others : (ls : List ℕ) → length (others ls) ≤ 8
few_others ls = subst (λ xs. length xs ≤ 8) (others_are ls) (others_length (marked_all none_named ls))

left_are : (ls : List ℕ) (named : List Bool) (left : ℕ) → named ≡ marked_all none_named ls → left ≡ length (others_of named) → left ≡ length (others ls)
left_are ls named left en el = el ∙ ap (λ n. length (others_of n)) en ∙ ap length (others_are ls)

enough_then : (body : Trees) (found : Measure) (named : List Bool) (left : ℕ) → found ≡ measured body → named ≡ marked_all none_named (locals_all body) → left ≡ length (others_of named) → found.crossed ≡ true
    → nat_lt found.levels left ≡ is_enough body
enough_then body found named left em en el h =
    ap (λ (m : Measure). nat_lt m.levels left) em ∙ enough_crossed (depth_all body) left (length (others (locals_all body))) (few_others (locals_all body)) (left_are (locals_all body) named left en el)
    ∙ ap (λ b. nat_le (depth_all body + (if b then 1 else 0)) (length (others (locals_all body)))) (sym h ∙ ap (λ (m : Measure). m.crossed) em)

enough_else : (body : Trees) (found : Measure) (named : List Bool) (left : ℕ) → found ≡ measured body → named ≡ marked_all none_named (locals_all body) → left ≡ length (others_of named) → found.crossed ≡ false
    → nat_le found.levels left ≡ is_enough body
enough_else body found named left em en el h =
    ap (λ (m : Measure). nat_le m.levels left) em ∙ enough_uncrossed (depth_all body) left (length (others (locals_all body))) (few_others (locals_all body)) (left_are (locals_all body) named left en el)
    ∙ ap (λ b. nat_le (depth_all body + (if b then 1 else 0)) (length (others (locals_all body)))) (sym h ∙ ap (λ (m : Measure). m.crossed) em)

pub enough_named : (body : Trees) (found : Measure) (named : List Bool) (left : ℕ) → found ≡ measured body → named ≡ marked_all none_named (locals_all body) → left ≡ length (others_of named) → suffices found left ≡ is_enough body
enough_named body found named left em en el = by_crossed found.crossed refl
  where
    by_crossed : (c : Bool) → found.crossed ≡ c → (if c then nat_lt found.levels left else nat_le found.levels left) ≡ is_enough body
    by_crossed true h = enough_then body found named left em en el h
    by_crossed false h = enough_else body found named left em en el h
