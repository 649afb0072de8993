-- What it says of terms that no Switch is found in them.
use Rattle.std.specs.Prelude.{◌≡◌, ℕ, false, List}
use Rattle.asl_tree.specs.declared.term.Node.{Node}
use Rattle.asl_tree.specs.Tree.{Trees, tree}
use Rattle.asl_tree.specs.View.{trees_of}
use Rattle.acpi_names.specs.Walked.{node_tree}
use Rattle.term_places.specs.Places.{term_places, places_of}
use Rattle.switch_loops.specs.Links.{looped_all, put}
use Rattle.switch_loops.specs.Places.{looped_at, looped_places}
use Rattle.switch_loops.specs.declared.found.Found.{Found}

abbrev pub joined : Found → Found → Found
joined Found.Nothing second = second
joined Found.Methods Found.Switch = Found.Switch
joined Found.Methods second = Found.Methods
joined Found.Switch second = Found.Switch

-- of a term: it stays as it is, at its place; or it is the same which Locals are left for its Switches
abbrev pub IsSoOf : Found → Node → Type 0
IsSoOf Found.Nothing node =
    ((flag : ℕ) (values : List ℕ) (rest : Trees) → put flag values false (node_tree node) rest ≡ tree (node_tree node) rest)
    × (looped_at false node.place node.term ≡ term_places node)
IsSoOf Found.Methods node =
    (flag other : ℕ) (values others : List ℕ) (rest : Trees) →
    put flag values false (node_tree node) rest ≡ put other others false (node_tree node) rest
IsSoOf Found.Switch node = Unit {0}

-- and of the terms of a list
abbrev pub IsSoIn : Found → List Node → Type 0
IsSoIn Found.Nothing nodes =
    ((flag : ℕ) (values : List ℕ) → looped_all flag values false (trees_of nodes) ≡ trees_of nodes)
    × (looped_places false nodes ≡ places_of nodes)
IsSoIn Found.Methods nodes =
    (flag other : ℕ) (values others : List ℕ) →
    looped_all flag values false (trees_of nodes) ≡ looped_all other others false (trees_of nodes)
IsSoIn Found.Switch nodes = Unit {0}
