use Rattle.name_kinds.proofs.facts.facts_of.Given as goal

abbrev pub ghost-noted : goal.ghost-noted
ghost-noted g a = g.whole

abbrev pub ghost-ends_of : goal.ghost-ends_of
ghost-ends_of g a = g.whole
