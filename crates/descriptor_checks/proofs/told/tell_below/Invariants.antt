use Rattle.descriptor_checks.proofs.told.tell_below.Given as goal

abbrev pub ghost-declared_at : goal.ghost-declared_at
ghost-declared_at g a = g.whole
