use Rattle.name_checks.proofs.check.name_faults.Given as goal

abbrev pub ghost-all_errors : goal.ghost-all_errors
ghost-all_errors g a = g.whole
