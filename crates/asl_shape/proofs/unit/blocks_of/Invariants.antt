use Rattle.asl_shape.proofs.Units.{AreRead}
use Rattle.asl_shape.proofs.unit.blocks_of.Given as goal

abbrev pub invariant-loop-raw : goal.invariant-loop-raw
invariant-loop-raw l = AreRead l.raws l.raw-index l.initial.faults.items l.faults.items l.blocks
