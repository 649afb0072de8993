use Rattle.switch_loops.specs.Reads.{others_of}
use Rattle.switch_loops.proofs.Marks.{free_next}
use Rattle.switch_loops.proofs.locals.Locals.others.Goals as goal

pub loop-index-preserved : goal.loop-index-preserved
loop-index-preserved c = free_next c.args.self.named c.loop-index.index c.loop-index.free.items c.put_other.new.free.items (others_of c.args.self.named) c.loop-index-test.true c.in_ok-put_other.ensures c.loop-index.invariant
