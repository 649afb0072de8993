-- The core of a program: what is written of it.
use Rattle.std.specs.Prelude.{Bool, false, []}
use Rattle.acpi_values.specs.Paths.{AbsolutePath}
use Rattle.asl_tree.specs.Names.{is_known}
use Rattle.asl_tree.specs.Tree.{Trees}
use Rattle.asl_meaning.specs.Declarations.{ExternalType, written_external, known_of}
use Rattle.acpi_names.specs.Errors.{whole_of}
use Rattle.acpi_names.specs.Spelled.{spelled_all}

-- what an External of a path is written as
abbrev pub says_of : Trees → AbsolutePath → ExternalType → ExternalType
says_of program = written_external (whole_of program).calls

-- the program with its names spelled, shortened or not, where `also` may stand in their way
abbrev pub core_beside : Bool → (also : AbsolutePath → Bool) → Trees → Trees
core_beside shorten also program = spelled_all shorten also (is_known (known_of program)) (says_of program) program []

-- the same of a program that stands alone
abbrev pub core_of : Bool → Trees → Trees
core_of shorten program = core_beside shorten (λ path. false) program
