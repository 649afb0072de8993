use Rattle.name_notes.proofs.check.note.Given as goal

abbrev pub ghost-declared_with : goal.ghost-declared_with
ghost-declared_with g a = g.whole
