use Rattle.name_checks.proofs.check.mention_errors.Given as goal

abbrev pub ghost-denoted : goal.ghost-denoted
ghost-denoted g a = g.whole

abbrev pub ghost-use_errors : goal.ghost-use_errors
ghost-use_errors g a = g.whole

abbrev pub ghost-step_errors : goal.ghost-step_errors
ghost-step_errors g a = g.whole

abbrev pub ghost-call_errors : goal.ghost-call_errors
ghost-call_errors g a = g.whole

abbrev pub ghost-declared_errors : goal.ghost-declared_errors
ghost-declared_errors g a = g.whole

abbrev pub ghost-external_errors : goal.ghost-external_errors
ghost-external_errors g a = g.whole

abbrev pub ghost-scope_errors : goal.ghost-scope_errors
ghost-scope_errors g a = g.whole

abbrev pub ghost-declared_at : goal.ghost-declared_at
ghost-declared_at g a = g.whole

abbrev pub ghost-declared_with : goal.ghost-declared_with
ghost-declared_with g a = g.whole
