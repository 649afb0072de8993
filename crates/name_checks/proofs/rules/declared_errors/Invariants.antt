use Rattle.name_checks.proofs.rules.declared_errors.Given as goal

abbrev pub ghost-step_errors : goal.ghost-step_errors
ghost-step_errors g a = g.whole

abbrev pub ghost-has_parent : goal.ghost-has_parent
ghost-has_parent g a = g.whole

abbrev pub ghost-length_errors : goal.ghost-length_errors
ghost-length_errors g a = g.whole
