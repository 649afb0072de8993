use Rattle.name_kinds.proofs.tables.note.Given as goal

abbrev pub ghost-denoted : goal.ghost-denoted
ghost-denoted g a = g.whole

abbrev pub ghost-declared_kind : goal.ghost-declared_kind
ghost-declared_kind g a = g.whole

abbrev pub ghost-declared_at : goal.ghost-declared_at
ghost-declared_at g a = g.whole

abbrev pub ghost-declared_with : goal.ghost-declared_with
ghost-declared_with g a = g.whole
