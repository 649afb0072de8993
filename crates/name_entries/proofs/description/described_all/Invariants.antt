use Rattle.name_entries.proofs.description.described_all.Given as goal

abbrev pub ghost-places_of : goal.ghost-places_of
ghost-places_of g a = g.whole

abbrev pub ghost-descriptions : goal.ghost-descriptions
ghost-descriptions g a = g.whole
