-- Nodes that are changed one after another, where they stand.
use Rattle.std.proofs.Common.{◌≡◌, ◌≢◌, ℕ, zero, suc, ◌+◌, ◌<◌, ◌≤◌, List, [], ◌∷◌, ◌++◌, length, get_or, set, take, Vec, Global, refl, sym, ap, ◌∙◌, subst, arith, below_more, length-set, get_or-set_same, get_or-set_other}
use Rattle.asl_tree.specs.declared.term.Op.{Op}
use Rattle.asl_tree.specs.declared.term.Node.{Node}
use Rattle.asl_tree.specs.declared.term.Term.{Term}
use Rattle.asl_tree.specs.declared.term.Term as D
use Rattle.acpi_names.specs.Parts.{term_size, nodes_size}
use Rattle.acpi_names.proofs.Trees.{node_smaller}

-- the first so many nodes have been changed, each as its number asks for, and the others are as they were
pub record Turns (turn : ℕ → Node → Node → Type 0) (old now : List Node) (i : ℕ) : Type 0 where
  pub done : (k : ℕ) → k < i → (e : Node) → turn k (get_or old k e) (get_or now k e)
  pub rest : (k : ℕ) (e : Node) → i ≤ k → get_or now k e ≡ get_or old k e
  pub size : length now ≡ length old

pub turns_none : (turn : ℕ → Node → Node → Type 0) (old : List Node) → Turns turn old old 0
turns_none turn old = record { done = λ k lt e. absurd (omega (arith, lt)); rest = λ k e le. refl; size = refl }

-- an element that is there does not depend on the default
pub any_default : (xs : List Node) (i : ℕ) (d e : Node) → i < length xs → get_or xs i d ≡ get_or xs i e
any_default [] i d e lt = absurd (omega (arith, lt))
any_default (x ∷ xs) zero d e lt = refl
any_default (x ∷ xs) (suc i) d e lt = any_default xs i d e (omega (arith, lt))

pub turns_next : (turn : ℕ → Node → Node → Type 0) (old now : List Node) (i : ℕ) (node new : Node) → i < length old → Turns turn old now i → turn i (get_or now i node) new → Turns turn old (set now i new) (i + 1)
turns_next turn old now i node new lt before step = record {
  done = below_more (λ k. (e : Node) → turn k (get_or old k e) (get_or (set now i new) k e)) i (λ k less e. above k less e) here;
  rest = λ k e le. get_or-set_other now i k new e (let other : k ≢ i = omega (arith, le) in other) ∙ before.rest k e (omega (arith, le));
  size = length-set now i new ∙ before.size;
}
  where
    above : (k : ℕ) → k < i → (e : Node) → turn k (get_or old k e) (get_or (set now i new) k e)
    above k less e =
        let other : k ≢ i = omega (arith, less) in
        let P : Node → Type 0 = λ n. turn k (get_or old k e) n in
        subst P (sym (get_or-set_other now i k new e other)) (before.done k less e)

    here : (e : Node) → turn i (get_or old i e) (get_or (set now i new) i e)
    here e =
        let was : get_or now i node ≡ get_or old i e = any_default now i node e (omega (arith, lt, before.size)) ∙ before.rest i e (omega arith) in
        let P : Node → Type 0 = λ n. turn i n new in
        let Q : Node → Type 0 = λ n. turn i (get_or old i e) n in
        subst Q (sym (get_or-set_same now i new e (omega (arith, lt, before.size)))) (subst P was step)

-- the next node is one of those that were there
pub turn_smaller : (turn : ℕ → Node → Node → Type 0) (old now all : List Node) (i : ℕ) (node : Node) → Turns turn old now i → i < length old → node ≡ get_or now i node → old ≡ all → term_size (get_or now i node).term < nodes_size all
turn_smaller turn old now all i node turns lt is same =
    let size : term_size (get_or now i node).term ≡ term_size node.term = ap (λ (n : Node). term_size n.term) (sym is) in
    omega (arith, size, ap nodes_size same, node_smaller old i node lt (is ∙ turns.rest i node (omega arith)))

-- the items of a vector behind a loop
pub front_only : (xs ys : List Node) (n : ℕ) → n ≡ length xs → take n (xs ++ ys) ≡ xs
front_only [] ys n e = ap (λ n. take n ys) e ∙ none ys
  where
    none : (ys : List Node) → take 0 ys ≡ []
    none [] = refl
    none (y ∷ ys) = refl
front_only (x ∷ xs) ys zero e = absurd (omega (arith, e))
front_only (x ∷ xs) ys (suc n) e = ap (λ xs. x ∷ xs) (front_only xs ys n (omega (arith, e)))

-- a form by its parts as they were read
pub form_is : (t : Term) (op read : Op) (args list body terms : Vec Node Global) → read ≡ op → list ≡ args → terms ≡ body → t ≡ D.Form op args body → t ≡ D.Form read list terms
form_is t op read args list body terms o a b e = e ∙ ap (λ q. D.Form q args body) (sym o) ∙ ap (λ q. D.Form read q body) (sym a) ∙ ap (D.Form read list) (sym b)
