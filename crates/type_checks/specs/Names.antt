-- What stands where the used names of a block lead, by the numbers of their nodes.
use Rattle.std.specs.Prelude.{ℕ, List, get_or, if◌then◌else◌}
use Rattle.acpi_values.specs.Paths.{AbsolutePath}
use Rattle.acpi_state.specs.Outcomes.{choose}
use Rattle.asl_tree.specs.Tree.{Trees}
use Rattle.asl_meaning.specs.Declarations.{is_named}
use Rattle.acpi_names.specs.Errors.{Whole, whole_of, final}
use Rattle.name_entries.specs.declared.kind.ObjectType.{ObjectType as Named}
use Rattle.name_entries.specs.declared.kind.ObjectType.TheVariants as N
use Rattle.name_entries.specs.Entries.{end_kind}
use Rattle.name_entries.specs.Uses.{denoted_in}

-- what stands at a path of a block of which this is known, behind all aliases: any data where nothing is named, and where a
-- descriptor is, of whose kind nothing is asked here
abbrev pub kind_known : Whole → AbsolutePath → Named
kind_known whole path = if is_named whole.all path then end_kind (final whole.known path) else N.Data

-- what stands where the used name at a node leads; a name that denotes nothing stands for any data
abbrev pub named : Trees → ℕ → Named
named program node = choose (denoted_in program node) N.Data (kind_known (whole_of program))

-- a list of what stands where the names at nodes lead
abbrev pub listed : List Named → ℕ → Named
listed kinds node = get_or kinds node N.Data
