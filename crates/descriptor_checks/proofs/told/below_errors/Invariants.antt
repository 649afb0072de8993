use Rattle.std.proofs.Common.{◌≡◌, Option, map, take}
use Rattle.acpi_values.specs.Paths.{AbsolutePath}
use Rattle.acpi_names.specs.Shown.{all_shown}
use Rattle.acpi_names.specs.Tables.{Tabled}
use Rattle.asl_tree.specs.declared.term.NamedDescriptor.{NamedDescriptor}
use Rattle.name_checks.specs.Messages.{message_of}
use Rattle.descriptor_checks.specs.Told.{all_below}
use Rattle.descriptor_checks.proofs.told.below_errors.Given as goal

abbrev pub ghost-tell_below : goal.ghost-tell_below
ghost-tell_below g a = g.whole

abbrev pub invariant-loop-mention : goal.invariant-loop-mention
invariant-loop-mention g l =
    (look : AbsolutePath → Option NamedDescriptor) → Tabled l.index.paths l.table look → l.out.items ≡ map message_of (all_below look (take l.mention-index (all_shown l.index.paths l.mentions)))
