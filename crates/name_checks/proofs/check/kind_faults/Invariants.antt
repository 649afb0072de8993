use Rattle.name_checks.proofs.check.kind_faults.Given as goal

abbrev pub ghost-all_types : goal.ghost-all_types
ghost-all_types g a = g.whole
