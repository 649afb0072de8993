use Rattle.name_checks.proofs.rules.use_errors.Given as goal

abbrev pub ghost-step_errors : goal.ghost-step_errors
ghost-step_errors g a = g.whole
