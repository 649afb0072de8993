-- Tables and flags with an entry for each number of a path.
use Rattle.std.specs.Prelude.{◌≡◌, ℕ, Bool, List, get_or, Option, Some, None}
use Rattle.acpi_values.specs.Paths.{AbsolutePath}
use Rattle.acpi_names.specs.Paths.{number_in, is_named_in}

-- the entry with a number; past the end, and without a number, there is none
abbrev pub entry_at : {A : Type 0} → List (Option A) → Option ℕ → Option A
entry_at table None = None
entry_at table (Some number) = get_or table number None

-- a table says of each path what `look` says of it, and nothing of paths that have no number
abbrev pub Tabled : {A : Type 0} → List AbsolutePath → List (Option A) → (AbsolutePath → Option A) → Type 0
Tabled paths table look = (path : AbsolutePath) → entry_at table (number_in paths path) ≡ look path

-- flags say which paths these are
abbrev pub Flags : List AbsolutePath → List Bool → (AbsolutePath → Bool) → Type 0
Flags paths flags has = (path : AbsolutePath) → is_named_in paths flags path ≡ has path
