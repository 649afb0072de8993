use Rattle.acpi_names.specs.Shown.{all_shown}
use Rattle.name_kinds.specs.Seen.{seen}
use Rattle.name_notes.proofs.check.notes.Given as goal

abbrev pub ghost-notes_of : goal.ghost-notes_of
ghost-notes_of a = seen (all_shown a.index.now.paths a.mentions.now)
