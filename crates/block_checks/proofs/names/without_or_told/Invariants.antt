use Rattle.block_checks.proofs.names.without_or_told.Given as goal

abbrev pub ghost-names_without : goal.ghost-names_without
ghost-names_without g a = g.ps
