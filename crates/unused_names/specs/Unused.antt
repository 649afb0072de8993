-- What a block mentions, without names that nothing uses.
use Rattle.std.specs.Prelude.{◌≡◌, ℕ, Bool, true, false, List, [], ◌∷◌, Option, Some, None, is_some}
use Rattle.acpi_values.specs.Paths.{AbsolutePath}
use Rattle.acpi_state.specs.Objects.{lookup}
use Rattle.asl_tree.specs.declared.path.Path.{Path}
use Rattle.asl_tree.specs.Names.{declared_path, denoted}
use Rattle.asl_tree.specs.Tree.{At}
use Rattle.asl_meaning.specs.Declarations.{Declared, As, AliasOf, ExternalType, nothing_declared}
use Rattle.acpi_names.specs.Errors.{Asked, ARegion}
use Rattle.acpi_names.specs.Mentions.{Mention, Used', Sought, Called, Declares, Outside, Opens, after_all}

-- the same, whatever the nodes
pub data Twin : Mention → Mention → Type 0 where
  TwinUse : (asked : Asked) (at to : At) (name : Path) (scope : AbsolutePath) → Twin (Used' asked at name scope) (Used' asked to name scope)
  TwinRegion : (field other at to : At) (name : Path) (scope : AbsolutePath)
      → Twin (Used' (ARegion field) at name scope) (Used' (ARegion other) to name scope)
  TwinSought : (at to : At) (name : Path) (scope : AbsolutePath) → Twin (Sought at name scope) (Sought to name scope)
  TwinCalled : (asked : Bool) (at to : At) (name : Path) (args : ℕ) (scope : AbsolutePath)
      → Twin (Called asked at name args scope) (Called asked to name args scope)
  TwinDeclares : (at to : At) (name : Path) (as' : Declared) (scope : AbsolutePath)
      → Twin (Declares at name as' scope) (Declares to name as' scope)
  TwinOutside : (here there at to : At) (name : Path) (type : ExternalType) (scope : AbsolutePath)
      → Twin (Outside here at name type scope) (Outside there to name type scope)
  TwinOpens : (here there at to : At) (name : Path) (scope inner : AbsolutePath)
      → Twin (Opens here at name scope inner) (Opens there to name scope inner)

-- a mention that declares none of these paths, as a term or as an External
abbrev pub Stays : (AbsolutePath → Bool) → Mention → Type 0
Stays gone (Declares at name as' scope) = gone (declared_path name scope) ≡ false
Stays gone (Outside here at name type scope) = gone (declared_path name scope) ≡ false
Stays gone _ = Unit {0}

-- the second has all mentions of the first but those that declare one of these paths
pub data Drops (gone : AbsolutePath → Bool) : List Mention → List Mention → Type 0 where
  NoMentions : Drops gone [] []
  Dropped : (at : At) (name : Path) (as' : Declared) (scope : AbsolutePath) {ms others : List Mention}
      → gone (declared_path name scope) ≡ true → Drops gone ms others → Drops gone (Declares at name as' scope ∷ ms) others
  Stayed : {m other : Mention} {ms others : List Mention} → Twin m other → Stays gone m → Drops gone ms others
      → Drops gone (m ∷ ms) (other ∷ others)

-- each of these paths is declared
abbrev pub AreDeclared : (AbsolutePath → Bool) → List Mention → Type 0
AreDeclared gone ms = (path : AbsolutePath) → gone path ≡ true → is_some (lookup (after_all ms nothing_declared).declared path) ≡ true

module _ (gone has : AbsolutePath → Bool) where
  abbrev pub is_gone : Option AbsolutePath → Bool
  is_gone None = false
  is_gone (Some path) = gone path

  -- a name denotes none of these paths
  abbrev pub Spares : Path → AbsolutePath → Type 0
  Spares name scope = is_gone (denoted has name scope) ≡ false

  -- nothing is declared directly below one
  abbrev pub is_below : AbsolutePath → Bool
  is_below [] = false
  is_below (segment ∷ outer) = gone outer

  abbrev pub SparesSource : Declared → Type 0
  SparesSource (As object) = Unit {0}
  SparesSource (AliasOf source scope) = Spares source scope

  -- a mention neither uses one of these paths nor declares a name below one
  abbrev pub SparesAll : Mention → Type 0
  SparesAll (Used' asked at name scope) = Spares name scope
  SparesAll (Sought at name scope) = Unit {0}
  SparesAll (Called asked at name args scope) = Spares name scope
  SparesAll (Declares at name as' scope) = (is_below (declared_path name scope) ≡ false) × SparesSource as'
  SparesAll (Outside here at name type scope) = Unit {0}
  SparesAll (Opens here at name scope inner) = Spares name scope

  abbrev pub AreSpared : List Mention → Type 0
  AreSpared [] = Unit {0}
  AreSpared (m ∷ ms) = SparesAll m × AreSpared ms
