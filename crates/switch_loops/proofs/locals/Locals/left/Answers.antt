use Rattle.std.proofs.Common.{length}
use Rattle.switch_loops.specs.Reads.{others_of}
use Rattle.switch_loops.proofs.Marks.{count_next, few_counted}
use Rattle.switch_loops.proofs.locals.Locals.left.Goals as goal

pub counted-count-requires : goal.counted-count-requires
counted-count-requires c = few_counted c.args.self.named c.loop-index.index c.loop-index.count c.loop-index.invariant

pub loop-index-preserved : goal.loop-index-preserved
loop-index-preserved c = count_next c.args.self.named c.loop-index.index c.loop-index.count c.counted-count.result (length (others_of c.args.self.named)) c.loop-index-test.true c.counted-count.ensures c.loop-index.invariant
