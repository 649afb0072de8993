use Rattle.acpi_names.specs.Shown.{all_shown}
use Rattle.name_kinds.specs.Seen.{seen}
use Rattle.descriptor_checks.proofs.described.described.Given as goal

abbrev pub ghost-descriptors : goal.ghost-descriptors
ghost-descriptors a = seen (all_shown a.index.now.paths a.mentions.now)
