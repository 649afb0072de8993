use Rattle.acpi_names.specs.Shown.{all_shown}
use Rattle.name_kinds.specs.Seen.{seen}
use Rattle.name_checks.proofs.check.kind_errors.Given as goal

abbrev pub ghost-kind_faults : goal.ghost-kind_faults
ghost-kind_faults a = seen (all_shown a.facts.now.index.paths a.mentions.now)
