use Rattle.acpi_names.specs.Shown.{all_shown}
use Rattle.name_kinds.specs.Seen.{seen}
use Rattle.name_checks.proofs.check.name_errors_in.Given as goal

abbrev pub ghost-name_faults : goal.ghost-name_faults
ghost-name_faults a = seen (all_shown a.facts.now.index.paths a.mentions.now)
