use Rattle.name_checks.proofs.rules.name_end.Given as goal

abbrev pub ghost-end : goal.ghost-end
ghost-end g a = g.whole
