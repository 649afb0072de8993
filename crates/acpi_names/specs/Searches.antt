-- The names that may stand while a program runs.
use Rattle.std.specs.Prelude.{◌≡◌, true, is_some}
use Rattle.acpi_values.specs.Paths.{AbsolutePath}
use Rattle.acpi_state.specs.Finds.{object_at}
use Rattle.acpi_state.specs.Objects.{Names}
use Rattle.asl_tree.specs.Tree.{Trees}
use Rattle.asl_meaning.specs.Declarations.{is_named, declarations}

-- whatever stands at a path, the path is declared, external or of the root
abbrev pub AreNamesOf : Trees → Names → Type 0
AreNamesOf program names = (path : AbsolutePath) → is_some (object_at names path) ≡ true → is_named (declarations program) path ≡ true
