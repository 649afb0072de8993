use Rattle.asl_tree.specs.View.{trees_of}
use Rattle.asl_tables.proofs.compile.compile_noted.Given as goal

abbrev pub ghost-find : goal.ghost-find
ghost-find g a = g.told

abbrev pub ghost-table_of : goal.ghost-table_of
ghost-table_of g a = (trees_of a.block.terms.items, g.told.1)
