use Rattle.name_checks.proofs.rules.call_errors.Given as goal

abbrev pub ghost-first_external : goal.ghost-first_external
ghost-first_external g a = g.whole

abbrev pub ghost-first_call : goal.ghost-first_call
ghost-first_call g a = g.whole
