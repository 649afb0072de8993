-- The places of the names that a block declares.
use Rattle.std.specs.Prelude.{◌≡◌, ℕ, Bool, true, false, List, [], ◌∷◌, length, Option, Some, None}
use Rattle.acpi_values.specs.Paths.{AbsolutePath}
use Rattle.acpi_state.specs.Objects.{lookup}
use Rattle.iasl_messages.specs.declared.place.Place.{Place}
use Rattle.asl_tree.specs.Names.{declared_path}
use Rattle.asl_tree.specs.Tree.{At}
use Rattle.asl_meaning.specs.Declarations.{in_root}
use Rattle.acpi_names.specs.Mentions.{Mention, Declares, Outside}
use Rattle.acpi_names.specs.Tables.{Tabled}
use Rattle.name_entries.specs.declared.places.PlaceTables.{PlaceTables}

-- declared paths and those of other tables, each with the place of the node that is the name, the last first; of declared
-- paths also the number of that node
pub record Places : Type 0 where
  pub declared : List (AbsolutePath × Place)
  pub nodes : List (AbsolutePath × ℕ)
  pub external : List (AbsolutePath × Place)

abbrev pub no_places : Places
no_places = record { declared = []; nodes = []; external = [] }

abbrev pub with_declared : AbsolutePath → At → Places → Places
with_declared path at places =
    record places { declared = (path, at.place) ∷ places.declared; nodes = (path, at.id) ∷ places.nodes }

-- an External of a path of the root says nothing
abbrev pub with_outside : Bool → AbsolutePath → Place → Places → Places
with_outside true path place places = places
with_outside false path place places = record places { external = (path, place) ∷ places.external }

abbrev pub placed : Mention → Places → Places
placed (Declares at name as' scope) places = with_declared (declared_path name scope) at places
placed (Outside here at name type scope) places =
    with_outside (in_root (declared_path name scope)) (declared_path name scope) at.place places
placed _ places = places

abbrev pub placed_all : List Mention → Places → Places
placed_all [] places = places
placed_all (m ∷ ms) places = placed_all ms (placed m places)

-- the beginning of the main file
abbrev pub beginning : Place
beginning = record { file = 0; line = 1; column = 1 }

-- the place of a path: of its last declaration, or else of its last External; a path of the root that is not declared
-- has the beginning of the main file
abbrev pub first_place : Option Place → Option Place → Place
first_place (Some place) external = place
first_place None (Some place) = place
first_place None None = beginning

abbrev pub place_at : Places → AbsolutePath → Place
place_at places path = first_place (lookup places.declared path) (lookup places.external path)

-- tables by the number of a path say the places
pub record ArePlaced (paths : List AbsolutePath) (tables : PlaceTables) (places : Places) : Type 0 where
  pub declared : Tabled paths tables.declared.items (lookup places.declared)
  pub nodes : Tabled paths tables.nodes.items (lookup places.nodes)
  pub external : Tabled paths tables.external.items (lookup places.external)

-- an entry for each path
pub record AreAll (paths : List AbsolutePath) (tables : PlaceTables) : Type 0 where
  pub declared : length tables.declared.items ≡ length paths
  pub nodes : length tables.nodes.items ≡ length paths
  pub external : length tables.external.items ≡ length paths

-- from what is said before to what is said behind a declaration and an External of a path
abbrev pub IsDeclaredAt : List AbsolutePath → PlaceTables → PlaceTables → AbsolutePath → At → Type 0
IsDeclaredAt paths old new path at = (p : Places) → ArePlaced paths old p → ArePlaced paths new (with_declared path at p)

abbrev pub IsOutsideAt : List AbsolutePath → PlaceTables → PlaceTables → AbsolutePath → Place → Type 0
IsOutsideAt paths old new path place = (p : Places) → ArePlaced paths old p → ArePlaced paths new (with_outside (in_root path) path place p)
