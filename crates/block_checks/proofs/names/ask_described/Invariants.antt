use Rattle.acpi_names.specs.Shown.{all_shown}
use Rattle.name_kinds.specs.Seen.{seen}
use Rattle.block_checks.proofs.names.ask_described.Given as goal

abbrev pub ghost-told_of : goal.ghost-told_of
ghost-told_of g a = g.ps

abbrev pub ghost-notes_of : goal.ghost-notes_of
ghost-notes_of g a = seen (all_shown a.index.now.paths a.mentions.now)

abbrev pub ghost-without_or_told : goal.ghost-without_or_told
ghost-without_or_told g a = g.ps
