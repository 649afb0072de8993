use Rattle.name_kinds.proofs.ends.behind.Given as goal

abbrev pub ghost-kind : goal.ghost-kind
ghost-kind g a = g.whole
