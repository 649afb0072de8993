use Rattle.asl_tables.proofs.compile.find.Given as goal

abbrev pub ghost-right_or_few : goal.ghost-right_or_few
ghost-right_or_few g a = g.told.1
