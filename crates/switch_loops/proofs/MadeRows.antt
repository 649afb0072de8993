-- The trees and the places of nodes that are made.
use Rattle.std.proofs.Common.{◌≡◌, ℕ, List, [], ◌∷◌, ◌++◌, reverse, Vec, Global, refl, ap, ◌∙◌}
use Rattle.std.proofs.lemmas.List.{reverse-append}
use Rattle.iasl_messages.specs.declared.place.Place.{Place}
use Rattle.acpi_values.specs.declared.operator.IntOp.TheVariants as IntOp
use Rattle.acpi_values.specs.declared.operator.DataOp.TheVariants as DataOp
use Rattle.acpi_values.specs.declared.operator.Plain.{Plain}
use Rattle.asl_tree.specs.declared.term.Op.{Op}
use Rattle.asl_tree.specs.declared.term.Control.{Control}
use Rattle.asl_tree.specs.declared.term.Control.TheVariants as C
use Rattle.acpi_values.specs.Operators.{Letter, Valued}
use Rattle.asl_tree.specs.declared.term.Literal.{Literal}
use Rattle.asl_tree.specs.declared.term.Literal.TheVariants as Lit
use Rattle.asl_tree.specs.declared.term.Node.{Node}
use Rattle.asl_tree.specs.declared.term.Term.{Term}
use Rattle.asl_tree.specs.declared.term.Term as D
use Rattle.asl_tree.specs.Tree.{At, Tree, Omitted, Apply, Constant, Trees, no_trees, tree}
use Rattle.asl_tree.specs.View.{apply_of, operands_as, form, tree_of, trees_of}
use Rattle.acpi_names.specs.Walked.{node_tree}
use Rattle.acpi_names.proofs.Trees.{form_tree}
use Rattle.hidden_locals.specs.Turns.{local, stored, equal}
use Rattle.term_places.specs.Places.{inner_places, term_places, places_of}
use Rattle.term_places.proofs.Places.{form_places, no_places, places_cons}
use Rattle.switch_loops.specs.Places.{own_places}
use Rattle.switch_loops.specs.Given.{HasValue}

pub none : trees_of [] ≡ no_trees
unfolding trees_of
none = refl

pub cons : (node : Node) (nodes : List Node) → trees_of (node ∷ nodes) ≡ tree (node_tree node) (trees_of nodes)
unfolding trees_of
cons node nodes = refl

pub two : (a b : Node) → trees_of (a ∷ b ∷ []) ≡ tree (node_tree a) (tree (node_tree b) no_trees)
unfolding trees_of
two a b = refl

pub local_made : (at : At) (i : ℕ) → tree_of at (D.Local i) ≡ local i
unfolding tree_of
local_made at i = refl

pub word_made : (at : At) (literal : Literal) (args body : Vec Node Global) → args.items ≡ [] → body.items ≡ [] → tree_of at (D.Form (Op.Literal literal) args body) ≡ Constant literal
word_made at literal args body e f =
    form_tree at (Op.Literal literal) args body ∙ ap (λ ns. form at (Op.Literal literal) (trees_of ns) (trees_of body.items)) e ∙ ap (λ ns. form at (Op.Literal literal) (trees_of []) (trees_of ns)) f
    ∙ ap (λ ts. form at (Op.Literal literal) ts ts) none

pub operator_made : (at : At) (op : Plain) (args body : Vec Node Global) (first second : Node) → args.items ≡ first ∷ second ∷ [] → body.items ≡ []
    → tree_of at (D.Form (Op.Plain op) args body) ≡ apply_of op (tree (node_tree first) (tree (node_tree second) no_trees))
operator_made at op args body first second e f =
    form_tree at (Op.Plain op) args body ∙ ap (λ ns. form at (Op.Plain op) (trees_of ns) (trees_of body.items)) e ∙ ap (λ ns. form at (Op.Plain op) (trees_of (first ∷ second ∷ [])) (trees_of ns)) f
    ∙ ap (form at (Op.Plain op) (trees_of (first ∷ second ∷ []))) none ∙ ap (λ ts. form at (Op.Plain op) ts no_trees) (two first second)

pub form_terms : (place : Place) (op : Op) (args body : Vec Node Global) → place ∷ inner_places (D.Form op args body) ≡ own_places op place (places_of body.items)
form_terms place op args body = ap (λ ps. place ∷ ps) (form_places op args body)

pub operator_placed : (place : Place) (op : Plain) (args body : Vec Node Global) → place ∷ inner_places (D.Form (Op.Plain op) args body) ≡ place ∷ []
operator_placed place op args body = form_terms place (Op.Plain op) args body

-- ---- places of lists

pub pushed_places : (old new : List Node) (node : Node) → new ≡ old ++ node ∷ [] → places_of (reverse new) ≡ term_places node ++ places_of (reverse old)
pushed_places old new node e = ap (λ ns. places_of (reverse ns)) e ∙ ap places_of (reverse-append old (node ∷ [])) ∙ places_cons node (reverse old)

bare_place : (op : Control) (place : Place) → own_places (Op.Control op) place [] ≡ place ∷ []
bare_place C.If place = refl
bare_place op place = refl

pub bare_placed : (op : Control) (place : Place) (body : List Node) → body ≡ [] → own_places (Op.Control op) place (places_of body) ≡ place ∷ []
bare_placed op place body f = ap (λ ns. own_places (Op.Control op) place (places_of ns)) f ∙ ap (own_places (Op.Control op) place) no_places ∙ bare_place op place

pub bare_made : (at : At) (op : Op) (args body : List Node) → args ≡ [] → body ≡ [] → form at op (trees_of args) (trees_of body) ≡ form at op no_trees no_trees
bare_made at op args body e f = ap (λ ns. form at op (trees_of ns) (trees_of body)) e ∙ ap (λ ns. form at op (trees_of []) (trees_of ns)) f ∙ ap (λ ts. form at op ts ts) none

-- an operand, as an operator sees it
abbrev operand : Tree → Tree
operand Omitted = Constant Lit.Ones
operand t = t

operand_given : (t : Tree) → HasValue t → operand t ≡ t
operand_given Omitted h = absurd h
operand_given t h = refl

operands_first : (letters : List Letter) (t : Tree) (ts : Trees) → operands_as (Valued ∷ letters) (tree t ts) ≡ tree (operand t) (operands_as letters ts)
operands_first letters Omitted ts = refl
operands_first letters t ts = refl

pub store_made : (value : Tree) (i : ℕ) → HasValue value → apply_of (Plain.Data DataOp.Store) (tree value (tree (local i) no_trees)) ≡ stored value (local i)
store_made Omitted i h = absurd h
store_made value i h = refl

pub equal_made : (value : Tree) (i : ℕ) → HasValue value → apply_of (Plain.Number IntOp.LEqual) (tree (local i) (tree value no_trees)) ≡ equal (local i) value
equal_made Omitted i h = absurd h
equal_made value i h = refl

pub either_made : (first second : Tree) → HasValue first → HasValue second → apply_of (Plain.Number IntOp.LOr) (tree first (tree second no_trees)) ≡ Apply (Plain.Number IntOp.LOr) (tree first (tree second no_trees)) no_trees
either_made first second h g =
    ap (λ ts. Apply (Plain.Number IntOp.LOr) ts no_trees) (operands_first (Valued ∷ []) first (tree second no_trees) ∙ ap (tree (operand first)) (operands_first [] second no_trees)
    ∙ ap (λ t. tree t (tree (operand second) no_trees)) (operand_given first h) ∙ ap (λ t. tree first (tree t no_trees)) (operand_given second g))
