-- Errors in code.
use Rattle.std.specs.Prelude.{◌≡◌, ◌++◌, List, [], get_or, map}
use Rattle.acpi_values.specs.Paths.{AbsolutePath}
use Rattle.acpi_names.specs.Errors.{NameError, Twice, DeclaredHere, Missing, NoContainer, LeavesRoot, Differs, TooLong, WrongCount}
use Rattle.acpi_names.specs.Errors.{WrongKind}
use Rattle.acpi_names.specs.Shown.{spot_as, written_as}
use Rattle.name_checks.specs.declared.fault.Fault.{Fault}
use Rattle.name_checks.specs.declared.fault.Fault.TheVariants as F

abbrev pub fault_as : List AbsolutePath → Fault → NameError
fault_as paths (F.Twice at path) = Twice (spot_as at) (get_or paths path [])
fault_as paths (F.DeclaredHere at path) = DeclaredHere (spot_as at) (get_or paths path [])
fault_as paths (F.Missing at name) = Missing (spot_as at) (written_as name)
fault_as paths (F.NoContainer at name) = NoContainer (spot_as at) (written_as name)
fault_as paths (F.LeavesRoot at name) = LeavesRoot (spot_as at) (written_as name)
fault_as paths (F.Differs at name) = Differs (spot_as at) (written_as name)
fault_as paths (F.TooLong at name) = TooLong (spot_as at) (written_as name)
fault_as paths (F.WrongCount at name) = WrongCount (spot_as at) (written_as name)
fault_as paths (F.WrongKind at name) = WrongKind (spot_as at) (written_as name)

-- these errors more
abbrev pub Finds : List AbsolutePath → List Fault → List Fault → List NameError → Type 0
Finds paths old new errors = map (fault_as paths) new ≡ map (fault_as paths) old ++ errors
