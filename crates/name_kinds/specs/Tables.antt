-- What tables by the number of a path say.
use Rattle.std.specs.Prelude.{◌≡◌, ℕ, Bool, List, [], ◌∷◌, ◌++◌, length, Option, true}
use Rattle.std.specs.Option.{option_map}
use Rattle.acpi_values.specs.Paths.{AbsolutePath}
use Rattle.acpi_state.specs.Objects.{lookup, root_objects}
use Rattle.asl_tree.specs.Names.{declared_path}
use Rattle.asl_meaning.specs.Declarations.{Declared, Declarations, with_declared, with_first, with_external, in_root, declared_kinds}
use Rattle.asl_meaning.specs.Declarations.{external_names, as_known, kind_of, called, is_named}
use Rattle.acpi_names.specs.Errors.{Whole}
use Rattle.acpi_names.specs.Paths.{number_in}
use Rattle.acpi_names.specs.Tables.{entry_at, Tabled}
use Rattle.acpi_names.specs.Mentions.{Mention, after, call_in}
use Rattle.acpi_names.specs.Mentions as M
use Rattle.name_kinds.specs.Kinds.{kind_as, type_as}
use Rattle.name_kinds.specs.declared.kind.NameKind.{NameKind}
use Rattle.name_kinds.specs.declared.kind.External.{External}
use Rattle.name_kinds.specs.declared.tables.Tables.{Tables}

-- a table whose entries are seen as what `look` says
abbrev pub TabledBy : {A B : Type 0} → (A → B) → List AbsolutePath → List (Option A) → (AbsolutePath → Option B) → Type 0
TabledBy view paths table look = (path : AbsolutePath) → option_map view (entry_at table (number_in paths path)) ≡ look path

-- what the tables say of some declarations and calls
pub record TablesSay (paths : List AbsolutePath) (has : AbsolutePath → Bool) (tables : Tables) (calls : List (AbsolutePath × ℕ))
    (d : Declarations) : Type 0 where
  pub kinds : TabledBy (kind_as paths) paths tables.kinds.items (lookup (declared_kinds has d.declared))
  pub externals : TabledBy type_as paths tables.externals.items (lookup d.external)
  pub first : Tabled paths tables.calls.items (lookup calls)

-- an entry for each path
pub record AreSized (paths : List AbsolutePath) (tables : Tables) : Type 0 where
  pub kinds : length tables.kinds.items ≡ length paths
  pub externals : length tables.externals.items ≡ length paths
  pub calls : length tables.calls.items ≡ length paths

-- what is declared by a mention is named over the whole block
abbrev pub IsThere : Whole → Mention → Type 0
IsThere whole (M.Declares at name as' scope) = is_named whole.all (declared_path name scope) ≡ true
IsThere whole (M.Outside here at name type scope) = is_named whole.all (declared_path name scope) ≡ true
IsThere whole _ = Unit {0}

-- from what is said before to what is said behind a declaration, an External, and a call of a path
abbrev pub IsDeclared : List AbsolutePath → Tables → Tables → NameKind → AbsolutePath → Type 0
IsDeclared paths old new kind path =
    (has : AbsolutePath → Bool) (calls : List (AbsolutePath × ℕ)) (d : Declarations) (as' : Declared) → kind_as paths kind ≡ kind_of has as'
    → TablesSay paths has old calls d → TablesSay paths has new calls (with_declared path as' d)

abbrev pub IsExternal : List AbsolutePath → Tables → Tables → External → AbsolutePath → Type 0
IsExternal paths old new external path =
    (has : AbsolutePath → Bool) (calls : List (AbsolutePath × ℕ)) (d : Declarations) → TablesSay paths has old calls d →
    TablesSay paths has new calls (record d { external = with_first path (type_as external) d.external })

abbrev pub IsOutside : List AbsolutePath → Tables → Tables → External → AbsolutePath → Type 0
IsOutside paths old new external path =
    (has : AbsolutePath → Bool) (calls : List (AbsolutePath × ℕ)) (d : Declarations) → TablesSay paths has old calls d →
    TablesSay paths has new calls (with_external (in_root path) path (type_as external) d)

abbrev pub IsCalled : List AbsolutePath → Tables → Tables → ℕ → AbsolutePath → Type 0
IsCalled paths old new args path =
    (has : AbsolutePath → Bool) (calls : List (AbsolutePath × ℕ)) (d : Declarations) → TablesSay paths has old calls d →
    TablesSay paths has new (calls ++ (path, args) ∷ []) d

-- from what is said before a mention to what is said behind it
abbrev pub Notices : List AbsolutePath → Whole → Tables → Tables → Mention → Type 0
Notices paths whole old new m =
    (calls : List (AbsolutePath × ℕ)) (d : Declarations) → TablesSay paths (is_named whole.all) old calls d →
    TablesSay paths (is_named whole.all) new (calls ++ called (call_in (is_named whole.all) m)) (after m d)

-- what is known of a block is what it declares, what it has of other tables, and the root's objects
abbrev pub IsKnown : Whole → Type 0
IsKnown whole = whole.known ≡ declared_kinds (is_named whole.all) whole.all.declared
    ++ as_known (external_names whole.calls whole.all.external ++ root_objects)

-- tables that say of each path what is known of it
pub record Says (paths : List AbsolutePath) (tables : Tables) (whole : Whole) : Type 0 where
  pub sized : AreSized paths tables
  pub notes : TablesSay paths (is_named whole.all) tables whole.calls whole.all
  pub known : IsKnown whole
