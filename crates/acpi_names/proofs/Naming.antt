-- The names that arguments are.
use Rattle.std.proofs.Common.{true, ◌≡◌, ℕ, zero, suc, ◌≤◌, List, [], ◌∷◌, length, take, drop, Option, Some, None, refl, sym, ap, ◌∙◌, arith}
use Rattle.std.specs.Prelude.{slice_get}
use Rattle.asl_tree.specs.declared.path.Path.{Path as Name}
use Rattle.asl_tree.specs.declared.term.Node.{Node}
use Rattle.asl_tree.specs.declared.term.Term.{Term}
use Rattle.asl_tree.specs.declared.term.Term as D
use Rattle.asl_tree.specs.Tree.{At, Tree, Use, Trees, no_trees, tree}
use Rattle.asl_tree.specs.View.{tree_of, row_trees, trees_of}
use Rattle.acpi_names.specs.Parts.{name_at, used_name}
use Rattle.acpi_names.specs.declared.mention.Occurrence.{Occurrence}
use Rattle.acpi_names.specs.Shown.{spot_as, named_in, named_at}
use Rattle.acpi_names.specs.Walked.{TermShape, OfName, term_shape, node_tree, first_trees, later_trees}
use Rattle.acpi_names.proofs.Plain.{is_plain, plain_form}

abbrev pub named_shape : At → TermShape → Option (At × Name)
named_shape at (OfName name) = Some (at, name)
named_shape at shape = None

plain_unnamed : (t : Tree) → is_plain t ≡ true → named_in t ≡ None
plain_unnamed (Use at name) e = absurd (grind arith)
plain_unnamed t e = refl

shape_named : (at : At) (t : Term) → named_in (tree_of at t) ≡ named_shape at (term_shape t)
unfolding tree_of
shape_named at (D.Form' op shape args shape' body) = plain_unnamed _ (plain_form at op (row_trees args) (row_trees body))
shape_named at _ = refl

abbrev or_node : Node → Option Node → Node
or_node node None = node
or_node node (Some other) = other

pub named_none : (nodes : List Node) (i : ℕ) → slice_get nodes i ≡ None → named_at i (trees_of nodes) ≡ None
unfolding trees_of
named_none [] i e = refl
named_none (node ∷ nodes) zero e = absurd (grind arith)
named_none (node ∷ nodes) (suc i) e = named_none nodes i e

pub named_there : (nodes : List Node) (i : ℕ) (node : Node) → slice_get nodes i ≡ Some node → named_at i (trees_of nodes) ≡ named_shape (record { id = node.id; place = node.place }) (term_shape node.term)
unfolding trees_of
named_there [] i node e = absurd (grind arith)
named_there (n ∷ nodes) zero node e =
    shape_named (record { id = n.id; place = n.place }) n.term ∙ ap (λ o. let m = or_node n o in named_shape (record { id = m.id; place = m.place }) (term_shape m.term)) e
named_there (n ∷ nodes) (suc i) node e = named_there nodes i node e

abbrev name_of : Option (At × Name) → Option Name
name_of None = None
name_of (Some m) = Some m.1

tree_name : (t : Tree) → used_name t ≡ name_of (named_in t)
tree_name (Use at name) = refl
tree_name t = refl

pub name_named : (n : ℕ) (ts : Trees) → name_at n ts ≡ name_of (named_at n ts)
name_named n no_trees = refl
name_named zero (tree t ts) = tree_name t
name_named (suc n) (tree t ts) = name_named n ts

pub name_some : (n : ℕ) (ts : Trees) (m : At × Name) → named_at n ts ≡ Some m → name_at n ts ≡ Some m.1
name_some n ts m e = name_named n ts ∙ ap name_of e

pub name_missing : (n : ℕ) (ts : Trees) → named_at n ts ≡ None → name_at n ts ≡ None
name_missing n ts e = name_named n ts ∙ ap name_of e

-- some of the arguments
pub taken_trees : (n : ℕ) (nodes : List Node) → trees_of (take n nodes) ≡ first_trees n (trees_of nodes)
unfolding trees_of
taken_trees zero [] = refl
taken_trees zero (node ∷ nodes) = refl
taken_trees (suc n) [] = refl
taken_trees (suc n) (node ∷ nodes) = ap (tree (node_tree node)) (taken_trees n nodes)

pub dropped_trees : (n : ℕ) (nodes : List Node) → trees_of (drop n nodes) ≡ later_trees n (trees_of nodes)
unfolding trees_of
dropped_trees zero nodes = refl
dropped_trees (suc n) [] = refl
dropped_trees (suc n) (node ∷ nodes) = dropped_trees n nodes

pub first_all : (n : ℕ) (nodes : List Node) → length nodes ≤ n → trees_of nodes ≡ first_trees n (trees_of nodes)
unfolding trees_of
first_all zero [] le = refl
first_all zero (node ∷ nodes) le = absurd (omega (arith, le))
first_all (suc n) [] le = refl
first_all (suc n) (node ∷ nodes) le = ap (tree (node_tree node)) (first_all n nodes (omega (arith, le)))

pub later_none : (n : ℕ) (nodes : List Node) → length nodes ≤ n → trees_of [] ≡ later_trees (suc n) (trees_of nodes)
unfolding trees_of
later_none n [] le = refl
later_none zero (node ∷ nodes) le = absurd (omega (arith, le))
later_none (suc n) (node ∷ nodes) le = later_none n nodes (omega (arith, le))

pub named_by : (place : ℕ) (nodes : List Node) (node : Node) (spot : Occurrence) (name : Name) → slice_get nodes place ≡ Some node → spot ≡ record { id = node.id; place = node.place } → OfName name ≡ term_shape node.term → Some (spot_as spot, name) ≡ named_at place (trees_of nodes)
named_by place nodes node spot name e es en =
    ap (λ (s : Occurrence). Some (spot_as s, name)) es ∙ ap (named_shape (record { id = node.id; place = node.place })) en ∙ sym (named_there nodes place node e)

pub unnamed_by : (place : ℕ) (nodes : List Node) (node : Node) (shape : TermShape) → slice_get nodes place ≡ Some node → shape ≡ term_shape node.term → ((name : Name) → shape ≡ OfName name → ⊥) → None ≡ named_at place (trees_of nodes)
unnamed_by place nodes node shape e en none = by_shape shape none ∙ ap (named_shape (record { id = node.id; place = node.place })) en ∙ sym (named_there nodes place node e)
  where
    by_shape : (s : TermShape) → ((name : Name) → s ≡ OfName name → ⊥) → None ≡ named_shape (record { id = node.id; place = node.place }) s
    by_shape (OfName name) none = absurd (none name refl)
    by_shape s none = refl
