use Rattle.name_notes.proofs.marks.note.Given as goal

abbrev pub ghost-method : goal.ghost-method
ghost-method g a = g.whole

abbrev pub ghost-used : goal.ghost-used
ghost-used g a = g.whole
