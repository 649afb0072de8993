use Rattle.name_checks.proofs.rules.external_errors.Given as goal

abbrev pub ghost-is_declared : goal.ghost-is_declared
ghost-is_declared g a = g.whole

abbrev pub ghost-step_errors : goal.ghost-step_errors
ghost-step_errors g a = g.whole

abbrev pub ghost-length_errors : goal.ghost-length_errors
ghost-length_errors g a = g.whole
