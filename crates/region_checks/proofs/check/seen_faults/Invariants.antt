use Rattle.acpi_names.specs.Shown.{all_shown}
use Rattle.name_kinds.specs.Seen.{seen}
use Rattle.region_checks.proofs.check.seen_faults.Given as goal

abbrev pub ghost-all_site_errors : goal.ghost-all_site_errors
ghost-all_site_errors a = seen (all_shown a.facts.now.index.paths a.mentions.now)
