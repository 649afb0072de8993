use Rattle.name_notes.proofs.marks.used.Given as goal

abbrev pub ghost-denoted : goal.ghost-denoted
ghost-denoted g a = g.whole
