use Rattle.type_checks.proofs.names.named_by.Given as goal

abbrev pub ghost-kind_there : goal.ghost-kind_there
ghost-kind_there g a = g.whole
