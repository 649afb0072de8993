use Rattle.name_notes.proofs.marks.method.Given as goal

abbrev pub ghost-declared_with : goal.ghost-declared_with
ghost-declared_with g a = g.whole
