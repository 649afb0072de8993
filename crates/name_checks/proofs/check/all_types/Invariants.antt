use Rattle.std.proofs.Common.{◌≡◌, ◌++◌, drop, map}
use Rattle.acpi_names.specs.Mentions.{all_types}
use Rattle.acpi_names.specs.Shown.{all_shown}
use Rattle.name_checks.specs.Faults.{fault_as}
use Rattle.name_checks.proofs.check.all_types.Given as goal

abbrev pub ghost-mention_types : goal.ghost-mention_types
ghost-mention_types g a = g.whole

abbrev pub invariant-loop-mention : goal.invariant-loop-mention
invariant-loop-mention g l = map (fault_as l.facts.index.paths) l.out.items ++ all_types g.whole (drop l.mention-index (all_shown l.facts.index.paths l.mentions)) ≡ map (fault_as l.facts.index.paths) l.initial.out.items ++ all_types g.whole (all_shown l.facts.index.paths l.mentions)
