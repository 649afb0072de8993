use Rattle.name_checks.proofs.rules.asked_types.Given as goal

abbrev pub ghost-name_end : goal.ghost-name_end
ghost-name_end g a = g.whole
