-- What the mentions in code stand for, where paths have numbers.
use Rattle.std.specs.Prelude.{◌≡◌, ◌++◌, ℕ, zero, suc, List, [], get_or, map, Option, Some, None}
use Rattle.acpi_values.specs.Paths.{AbsolutePath}
use Rattle.asl_tree.specs.declared.path.Path.{Path}
use Rattle.asl_tree.specs.Tree.{At, Tree, Use, Trees, no_trees, tree}
use Rattle.asl_meaning.specs.Declarations.{As, AliasOf}
use Rattle.asl_meaning.specs.Declarations as D
use Rattle.acpi_names.specs.Parts.{object_of}
use Rattle.acpi_names.specs.Errors.{unit_path}
use Rattle.acpi_names.specs.Errors as E
use Rattle.acpi_names.specs.Mentions as M
use Rattle.acpi_names.specs.declared.mention.Occurrence.{Occurrence}
use Rattle.acpi_names.specs.declared.mention.Named.{Named}
use Rattle.acpi_names.specs.declared.mention.Declared.{Declared}
use Rattle.acpi_names.specs.declared.mention.WrittenName.{WrittenName}
use Rattle.acpi_names.specs.declared.mention.Asked.{Asked}
use Rattle.acpi_names.specs.declared.mention.Mention.{Mention}

abbrev pub spot_as : Occurrence → At
spot_as spot = record { id = spot.id; place = spot.place }

abbrev pub written_as : WrittenName → Path
written_as (WrittenName.Path name) = name.now
written_as (WrittenName.Segment segment) = unit_path segment

abbrev pub asked_as : Asked → E.Asked
asked_as Asked.Anything = E.Anything
asked_as Asked.Object = E.AnObject
asked_as Asked.Value = E.AValue
asked_as Asked.Mutex = E.AMutex
asked_as Asked.Event = E.AnEvent
asked_as Asked.Unit = E.AUnit
asked_as (Asked.Region field) = E.ARegion (spot_as field)

abbrev pub named_as : Named → At × Path
named_as named = (spot_as named.at, named.name.now)

-- the name that an argument is, with its node
abbrev pub named_in : Tree → Option (At × Path)
named_in (Use at name) = Some (at, name)
named_in _ = None

abbrev pub named_at : ℕ → Trees → Option (At × Path)
named_at n no_trees = None
named_at zero (tree t ts) = named_in t
named_at (suc n) (tree t ts) = named_at n ts

module _ (paths : List AbsolutePath) where
  abbrev pub declared_as : Declared → D.Declared
  declared_as (Declared.As what) = As (object_of what)
  declared_as (Declared.Alias source scope) = AliasOf source.now (get_or paths scope [])

  abbrev pub shown : Mention → M.Mention
  shown (Mention.Used asked at name scope) = M.Used' (asked_as asked) (spot_as at) name.now (get_or paths scope [])
  shown (Mention.Sought at name scope) = M.Sought (spot_as at) name.now (get_or paths scope [])
  shown (Mention.Called asked at name args scope) = M.Called asked (spot_as at) name.now args (get_or paths scope [])
  shown (Mention.Declares at name what scope path) = M.Declares (spot_as at) (written_as name) (declared_as what) (get_or paths scope [])
  shown (Mention.Outside here at name object parameters scope) =
      M.Outside (spot_as here) (spot_as at) name.now (record { type = object; parameters = parameters }) (get_or paths scope [])
  shown (Mention.Opens here at name scope inner) = M.Opens (spot_as here) (spot_as at) name.now (get_or paths scope [])
      (get_or paths inner [])

  abbrev pub all_shown : List Mention → List M.Mention
  all_shown mentions = map shown mentions

-- so many mentions more, for any paths
abbrev pub Tells : List Mention → List Mention → (List AbsolutePath → List M.Mention) → Type 0
Tells old new told = (paths : List AbsolutePath) → all_shown paths new ≡ all_shown paths old ++ told paths
