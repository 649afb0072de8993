use Rattle.std.proofs.Common.{ℕ, List, take}
use Rattle.acpi_state.specs.Objects.{lookup}
use Rattle.acpi_names.specs.Shown.{all_shown}
use Rattle.acpi_names.specs.Tables.{Tabled}
use Rattle.asl_tree.specs.declared.term.NamedDescriptor.{NamedDescriptor}
use Rattle.descriptor_fields.specs.Nodes.{SaysAt}
use Rattle.descriptor_checks.specs.Resolved.{described}
use Rattle.descriptor_checks.proofs.described.descriptors.Given as goal

abbrev pub ghost-note : goal.ghost-note
ghost-note g a = g.whole

abbrev pub invariant-loop-mention : goal.invariant-loop-mention
invariant-loop-mention g l =
    (said : List (ℕ × NamedDescriptor)) → SaysAt l.named said → Tabled l.index.paths l.table.items (lookup (described said (take l.mention-index (all_shown l.index.paths l.mentions))))
