use Rattle.std.proofs.Common.{◌-◌, arith}
use Rattle.source_lines.specs.Order.{ranks}
use Rattle.source_lines.proofs.Ordered.{rank_at, ascends_more}
use Rattle.source_lines.proofs.order.ascends.Goals as goal

pub loop-count-preserved : goal.loop-count-preserved
loop-count-preserved c =
    let lines = c.args.lines.now in
    let count = c.loop-count.count in
    let last = rank_at lines (count - 1) c.index-lines-count.result (omega (arith, c.loop-count.invariant.0)) c.index-lines-count.is in
    let here = rank_at lines count c.index-lines-count-in-loop-count.result c.loop-count-test.true c.index-lines-count-in-loop-count.is in
    (omega arith, ascends_more (ranks lines) count c.loop-count.invariant.0 c.loop-count.invariant.1 (omega (arith, last, here, c.rank.ensures, c.rank-in-loop-count.ensures, c.if-rank.false)))
