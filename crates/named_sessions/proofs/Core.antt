-- A block whose names are spelled by the names that are declared is its core.
use Rattle.std.proofs.Common.{◌≡◌, ℕ, Bool, List, [], Option, sym, ap, ◌∙◌}
use mathlib.Core.Path.{fun_ext}
use Rattle.acpi_values.specs.Paths.{AbsolutePath}
use Rattle.acpi_state.specs.Objects.{lookup}
use Rattle.asl_tree.specs.Tree.{Trees}
use Rattle.asl_meaning.specs.Declarations.{Declarations, declarations, is_named, written_external}
use Rattle.acpi_names.specs.Errors.{whole_of}
use Rattle.acpi_names.specs.Parts.{Agrees}
use Rattle.acpi_names.specs.Spelled.{spelled_all}
use Rattle.acpi_names.specs.Tables.{Tabled}
use Rattle.named_sessions.specs.Core.{says_of, core_beside}
use Rattle.named_sessions.proofs.Settles.{known_is_named}

-- what is known of a program is what it declares
pub spelled_core : (shorten : Bool) (also : AbsolutePath → Bool) (program : Trees) → spelled_all shorten also (is_named (declarations program)) (says_of program) program [] ≡ core_beside shorten also program
spelled_core shorten also program =
    ap (λ has. spelled_all shorten also has (says_of program) program []) (fun_ext (λ path. sym (known_is_named program path)))

-- so what is spelled by the flags of the declarations and a table of the calls is the core
pub core_spelled : (shorten : Bool) (also : AbsolutePath → Bool) (paths : List AbsolutePath) (named : List Bool) (table : List (Option ℕ)) (program spelt : Trees) → ((d : Declarations) (counts : List (AbsolutePath × ℕ)) → Agrees paths named d → Tabled paths table (lookup counts) → spelt ≡ spelled_all shorten also (is_named d) (written_external counts) program [])
    → Agrees paths named (declarations program) → Tabled paths table (lookup (whole_of program).calls) → spelt ≡ core_beside shorten also program
core_spelled shorten also paths named table program spelt spells agrees tabled =
    spells (declarations program) (whole_of program).calls agrees tabled ∙ spelled_core shorten also program
