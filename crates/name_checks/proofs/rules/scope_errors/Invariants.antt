use Rattle.name_checks.proofs.rules.scope_errors.Given as goal

abbrev pub ghost-opens : goal.ghost-opens
ghost-opens g a = g.whole
