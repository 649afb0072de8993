use Rattle.acpi_names.specs.Shown.{all_shown}
use Rattle.name_kinds.specs.Seen.{seen}
use Rattle.name_entries.proofs.entries.entries_of.Given as goal

abbrev pub ghost-described_all : goal.ghost-described_all
ghost-described_all a = seen (all_shown a.facts.now.index.paths a.mentions.now)
