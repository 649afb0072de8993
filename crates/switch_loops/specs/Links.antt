-- Switches as loops, one term after another, with the Locals that are left.
use Rattle.std.specs.Prelude.{ℕ, Bool, true, false, if◌then◌else◌, List, [], ◌∷◌, drop, Option, Some, None}
use Rattle.asl_tree.specs.declared.term.Control.TheVariants as Control
use Rattle.asl_tree.specs.declared.term.Declaration.TheVariants as Declaration
use Rattle.asl_tree.specs.declared.term.Op.{Op}
use Rattle.asl_tree.specs.declared.term.Node.{Node}
use Rattle.asl_tree.specs.Tree.{Tree, ElseIf, Else, Switch, Case, Continue, Trees, no_trees, tree}
use Rattle.asl_tree.specs.View.{trees_of}
use Rattle.term_places.specs.Places.{places_of}
use Rattle.acpi_names.specs.Walked.{TermShape, OfForm, term_shape}
use Rattle.hidden_locals.specs.Crossing.{have_continue}
use Rattle.hidden_locals.specs.Turns.{Plan, local, nth, then_trees, loop_of, loop_terms, continue_terms}
use Rattle.hidden_locals.specs.Switches.{case_test, opened, unswitched, unswitched_all, links, default_link, without_switches}
use Rattle.switch_loops.specs.Given.{AreGiven}
use Rattle.switch_loops.specs.Kinds.{default_node}
use Rattle.switch_loops.specs.Places.{DefaultPlaces}
use Rattle.switch_loops.specs.declared.made.Otherwise.{Otherwise}

-- a plan by its flag and the Locals that are left at some level: the level behind the flag
abbrev pub plan_as : ℕ → List ℕ → Plan
plan_as flag values = record { free = flag ∷ values; levels = 0 }

abbrev pub looped : ℕ → List ℕ → Bool → Tree → Tree
looped flag values inside term = unswitched (plan_as flag values) 1 inside term

abbrev pub looped_all : ℕ → List ℕ → Bool → Trees → Trees
looped_all flag values inside terms = unswitched_all (plan_as flag values) 1 inside terms

-- what stands for a term, before others
abbrev pub put : ℕ → List ℕ → Bool → Tree → Trees → Trees
put flag values inside (Switch value cases) rest =
    loop_terms (plan_as flag values) (have_continue cases) inside
    (loop_of value (local (nth values 0)) (opened (links (plan_as flag values) 1 cases (default_link (plan_as flag values) 1 cases))))
    rest
put flag values inside Continue rest = continue_terms (plan_as flag values) inside rest
put flag values inside term rest = tree (looped flag values inside term) rest

-- what stands for a Case before the branches behind it
abbrev pub linked : ℕ → List ℕ → Tree → Trees → Trees
linked flag values (Case value body) branches =
    tree (ElseIf (case_test (local (nth values 0)) value) (looped_all flag (drop 1 values) true body)) branches
linked flag values term branches = branches

-- branches behind the tests before them; where there is none, the first ElseIf is the If
abbrev pub behind : Trees → Trees → Trees
behind no_trees branches = opened branches
behind (tree test tests) branches = then_trees (tree test tests) branches

-- what stands in the braces of a form that stays
abbrev pub in_braces : ℕ → List ℕ → Bool → Op → Trees → Trees
in_braces flag values inside (Op.Declaration Declaration.Method) body = without_switches body
in_braces flag values inside (Op.Declaration Declaration.Device) body = looped_all flag values inside body
in_braces flag values inside (Op.Declaration Declaration.ThermalZone) body = looped_all flag values inside body
in_braces flag values inside (Op.Declaration Declaration.PowerResource) body = looped_all flag values inside body
in_braces flag values inside (Op.Declaration Declaration.Processor) body = looped_all flag values inside body
in_braces flag values inside (Op.Declaration Declaration.Scope) body = looped_all flag values inside body
in_braces flag values inside (Op.Control Control.If) body = looped_all flag values inside body
in_braces flag values inside (Op.Control Control.ElseIf) body = looped_all flag values inside body
in_braces flag values inside (Op.Control Control.Else) body = looped_all flag values inside body
in_braces flag values inside (Op.Control Control.While) body = looped_all flag values false body
in_braces flag values inside op body = body

-- a Default as an Else, and its places
abbrev pub otherwise_trees : Option Otherwise → Trees
otherwise_trees None = no_trees
otherwise_trees (Some otherwise) = tree (Else (trees_of otherwise.terms.items)) no_trees

abbrev pub otherwise_places : Option Otherwise → DefaultPlaces
otherwise_places None = None
otherwise_places (Some otherwise) = Some (otherwise.origin.place, places_of otherwise.terms.items)

-- the first Default among some nodes
abbrev pub first_default : List Node → Option Node
first_default [] = None
first_default (node ∷ nodes) = if default_node node then Some node else first_default nodes

-- what stands in the braces of a form
abbrev pub shape_body : TermShape → Trees
shape_body (OfForm op args body) = body
shape_body shape = no_trees

abbrev pub given_default : Option Node → Type 0
given_default None = Unit {0}
given_default (Some node) = AreGiven (shape_body (term_shape node.term))

-- what a Default does, as an Else
abbrev pub default_looped : ℕ → List ℕ → Option Node → Trees
default_looped flag values None = no_trees
default_looped flag values (Some node) = tree (Else (looped_all flag (drop 1 values) true (shape_body (term_shape node.term)))) no_trees
