use Rattle.name_checks.proofs.check.mention_types.Given as goal

abbrev pub ghost-denoted : goal.ghost-denoted
ghost-denoted g a = g.whole

abbrev pub ghost-asked_types : goal.ghost-asked_types
ghost-asked_types g a = g.whole

abbrev pub ghost-call_types : goal.ghost-call_types
ghost-call_types g a = g.whole
