use Rattle.name_checks.proofs.rules.opens.Given as goal

abbrev pub ghost-end : goal.ghost-end
ghost-end g a = g.whole
