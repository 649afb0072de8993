use Rattle.acpi_names.specs.Shown.{all_shown}
use Rattle.name_kinds.specs.Seen.{seen}
use Rattle.name_kinds.proofs.known.known_of.Given as goal

abbrev pub ghost-facts_of : goal.ghost-facts_of
ghost-facts_of a = seen (all_shown a.index.paths a.mentions.now)
