use Rattle.std.proofs.Common.{Option, take}
use Rattle.acpi_values.specs.Paths.{AbsolutePath}
use Rattle.acpi_names.specs.Parts.{Agrees}
use Rattle.acpi_names.specs.Shown.{all_shown}
use Rattle.acpi_names.specs.Tables.{Tabled}
use Rattle.asl_meaning.specs.Declarations.{Declarations, is_named}
use Rattle.asl_tree.specs.declared.term.NamedDescriptor.{NamedDescriptor}
use Rattle.descriptor_checks.specs.Fields.{AreSorted}
use Rattle.descriptor_checks.proofs.told.sorted_mentions.Given as goal

abbrev pub invariant-loop-mention : goal.invariant-loop-mention
invariant-loop-mention l =
    (d : Declarations) (look : AbsolutePath → Option NamedDescriptor) → Agrees l.index.paths l.index.named.items d → Tabled l.index.paths l.table look
    → AreSorted l.index.paths (is_named d) look l.sorted (take l.mention-index (all_shown l.index.paths l.mentions))
