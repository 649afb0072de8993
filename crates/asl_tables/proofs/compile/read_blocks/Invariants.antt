use Rattle.asl_tables.proofs.Items.{AreRead}
use Rattle.asl_tables.proofs.compile.read_blocks.Given as goal

abbrev pub invariant-loop-raw : goal.invariant-loop-raw
invariant-loop-raw l = AreRead l.raws l.raw-index l.left.items l.reads.items
