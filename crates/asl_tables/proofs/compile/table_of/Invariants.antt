use Rattle.asl_tables.proofs.compile.table_of.Given as goal

abbrev pub ghost-written : goal.ghost-written
ghost-written g a = g.of
