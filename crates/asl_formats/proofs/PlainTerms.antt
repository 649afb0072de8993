-- The question for an expression with nothing but expressions in it, node after node.
use Rattle.std.proofs.Common.{◌≡◌, ℕ, zero, suc, ◌+◌, ◌<◌, ◌≤◌, Bool, true, false, List, [], ◌∷◌, length, get_or, drop, Vec, Global, refl, sym, ap, ◌∙◌, arith}
use Rattle.std.specs.Prelude.{not, ◌&&◌, ◌||◌}
use Rattle.asl_tree.specs.declared.path.Path.{Path}
use Rattle.asl_tree.specs.declared.term.Op.{Op}
use Rattle.asl_tree.specs.declared.term.Node.{Node}
use Rattle.asl_tree.specs.declared.term.Term.{Term}
use Rattle.asl_tree.specs.declared.term.Term as D
use Rattle.asl_tree.specs.Tree.{At}
use Rattle.asl_tree.specs.View.{tree_of, trees_of}
use Rattle.term_plans.specs.Plans.{Plans, a_call, a_form, plan_of, plans_of}
use Rattle.term_plans.proofs.Plans.{plan_form, plan_call}
use Rattle.asl_formats.specs.Bare.{nowhere}
use Rattle.asl_prints.specs.Forms as F
use Rattle.asl_formats.specs.Plain.{is_package, is_plain, are_plain}
use Rattle.asl_prints.specs.Plans as P
use Rattle.asl_prints.specs.Fits as S
use Rattle.asl_formats.proofs.PlanPrograms.{is_flat, flat_term, node_stands}
use Rattle.asl_prints.proofs.PlanTrees.{nodes_stand, expresses_stand, expression_stands}

-- ---- a term

pub form_expressed : (op : Op) (args body : List Node) → S.expresses op (trees_of args) (trees_of body) ≡ P.expresses op (plans_of args) (plans_of body)
form_expressed op args body = sym (expresses_stand (plans_of args) (plans_of body) (trees_of args) (trees_of body) (nodes_stand args) (nodes_stand body) op)

call_is : (path : Path) (args : Plans) → is_plain (a_call path args) ≡ are_plain args
unfolding is_plain
call_is path args = refl

form_is : (op : Op) (args body : Plans) → is_plain (a_form op args body) ≡ (P.expresses op args body && (are_plain args && (not (is_package op) || are_plain body)))
unfolding is_plain
form_is op args body = refl

flat_is : (t : Term) → is_flat t ≡ true → is_plain (plan_of t) ≡ P.is_expression (plan_of t)
unfolding plan_of is_plain
flat_is (D.Call' path shape args) e = absurd cc
flat_is (D.Form' op shape args shape' body) e = absurd cc
flat_is t e = refl

expressed : (t : Term) → P.is_expression (plan_of t) ≡ F.is_expression (tree_of nowhere t)
expressed t = expression_stands (plan_of t) (tree_of nowhere t) (node_stands (record { id = nowhere.id; place = nowhere.place; term = t }))

pub call_plain : (t : Term) (path : Path) (args : Vec Node Global) (xs : List Node) (result : Bool) → t ≡ D.Call path args → xs ≡ args.items → result ≡ are_plain (plans_of xs) → result ≡ is_plain (plan_of t)
call_plain t path args xs result e ea h =
    h ∙ ap (λ ns. are_plain (plans_of ns)) ea ∙ sym (ap (λ t. is_plain (plan_of t)) e ∙ ap is_plain (plan_call path args) ∙ call_is path (plans_of args.items))

pub form_plain : (t : Term) (op : Op) (args body : Vec Node Global) (xs ys : List Node) (result : Bool) → t ≡ D.Form op args body → xs ≡ args.items → ys ≡ body.items
    → result ≡ (P.expresses op (plans_of xs) (plans_of ys) && (are_plain (plans_of xs) && (not (is_package op) || are_plain (plans_of ys)))) → result ≡ is_plain (plan_of t)
form_plain t op args body xs ys result e ea eb h =
    h ∙ ap (λ ns. P.expresses op (plans_of ns) (plans_of ys) && (are_plain (plans_of ns) && (not (is_package op) || are_plain (plans_of ys)))) ea
    ∙ ap (λ ns. P.expresses op (plans_of args.items) (plans_of ns) && (are_plain (plans_of args.items) && (not (is_package op) || are_plain (plans_of ns)))) eb
    ∙ sym (ap (λ t. is_plain (plan_of t)) e ∙ ap is_plain (plan_form op args body) ∙ form_is op (plans_of args.items) (plans_of body.items))

pub other_plain : (t : Term) (result : Bool) → ((p : Path) (v : Vec Node Global) → t ≡ D.Call p v → ⊥) → ((o : Op) (v w : Vec Node Global) → t ≡ D.Form o v w → ⊥) → ((at : At) → F.is_expression (tree_of at t) ≡ result) → result ≡ is_plain (plan_of t)
other_plain t result not_call not_form h = sym (flat_is t (flat_term t not_call not_form) ∙ expressed t ∙ h nowhere)

-- ---- terms one after another: some first ones are

abbrev pub Found : List Node → ℕ → Type 0
Found ns i = are_plain (plans_of (drop i ns)) ≡ are_plain (plans_of ns)

node_plain : (ns : List Node) (i : ℕ) (node : Node) → i < length ns → node ≡ get_or ns i node → are_plain (plans_of (drop i ns)) ≡ (is_plain (plan_of node.term) && are_plain (plans_of (drop (suc i) ns)))
unfolding is_plain plans_of
node_plain [] i node lt e = absurd (omega (arith, lt))
node_plain (n ∷ ns) zero node lt e = ap (λ (m : Node). is_plain (plan_of m.term) && are_plain (plans_of ns)) (sym e)
node_plain (n ∷ ns) (suc i) node lt e = node_plain ns i node (omega (arith, lt)) e

pub next_plain : (ns : List Node) (i : ℕ) (node : Node) → i < length ns → node ≡ get_or ns i node → is_plain (plan_of node.term) ≡ true → Found ns i → Found ns (i + 1)
next_plain ns i node lt e plain before =
    let more : i + 1 ≡ suc i = omega arith in
    ap (λ k. are_plain (plans_of (drop k ns))) more ∙ ap (λ b. b && are_plain (plans_of (drop (suc i) ns))) (sym plain) ∙ sym (node_plain ns i node lt e) ∙ before

pub other_found : (ns : List Node) (i : ℕ) (node : Node) → i < length ns → node ≡ get_or ns i node → is_plain (plan_of node.term) ≡ false → Found ns i → false ≡ are_plain (plans_of ns)
other_found ns i node lt e other before = ap (λ b. b && are_plain (plans_of (drop (suc i) ns))) (sym other) ∙ sym (node_plain ns i node lt e) ∙ before

gone : (ns : List Node) (i : ℕ) → length ns ≤ i → are_plain (plans_of (drop i ns)) ≡ true
unfolding is_plain plans_of
gone [] zero le = refl
gone [] (suc i) le = refl
gone (n ∷ ns) zero le = absurd (omega (arith, le))
gone (n ∷ ns) (suc i) le = gone ns i (omega (arith, le))

pub all_found : (ns : List Node) (i : ℕ) → length ns ≤ i → Found ns i → true ≡ are_plain (plans_of ns)
all_found ns i le before = sym (gone ns i le) ∙ before
