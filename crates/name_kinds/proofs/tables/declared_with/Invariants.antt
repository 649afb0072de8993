use Rattle.name_kinds.proofs.tables.declared_with.Given as goal

abbrev pub ghost-declared_at : goal.ghost-declared_at
ghost-declared_at g a = g.whole
