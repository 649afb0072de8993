use Rattle.name_kinds.proofs.tables.declared_kind.Given as goal

abbrev pub ghost-denoted : goal.ghost-denoted
ghost-denoted g a = g.whole
