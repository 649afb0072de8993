use Rattle.std.proofs.Common.{List, reverse}
use Rattle.std.specs.Vec.{vec_len}
use Rattle.asl_syntax.specs.declared.raw.Raw.{Raw}
use Rattle.asl_shape.specs.Forms.{AreRight}
use Rattle.program_shapes.specs.Kept.{AreKeptAlone}
use Rattle.asl_tables.specs.Reads.{AreReadOf, AreRightReads}
use Rattle.asl_tables.proofs.Items.{AreCompiled}
use Rattle.asl_tables.proofs.compile.compile_items.Given as goal

abbrev pub invariant-loop-read : goal.invariant-loop-read
invariant-loop-read l = record {
  right : AreRightReads (reverse l.left.items);
  comes : (items : List Raw) → AreKeptAlone items → AreRight items → AreReadOf items l.fn.reads.items → AreCompiled l.style l.lines items l.left.items l.sorted l.notes;
}

abbrev pub decreases-loop-read : goal.decreases-loop-read
decreases-loop-read l = vec_len l.left
