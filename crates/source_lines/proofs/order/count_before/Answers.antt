use Rattle.std.proofs.Common.{◌<◌, ◌+◌, ◌-◌, ◌/◌, length, arith}
use Rattle.source_lines.proofs.Ordered.{rank_at, before_more, behind_more}
use Rattle.source_lines.proofs.order.count_before.Goals as goal

pub loop-low-preserved-then-rank-sought : goal.loop-low-preserved-then-rank-sought
loop-low-preserved-then-rank-sought c =
    let lines = c.args.lines.now in
    let middle = c.loop-low.low + (c.loop-low.high - c.loop-low.low) / 2 in
    let within : middle < length lines = omega arith in
    let here = rank_at lines middle c.index-lines-middle.result within c.index-lines-middle.is in
    record {
      within = omega arith;
      apart = omega arith;
      before = before_more lines c.requires middle c.rank-sought.result within (omega (arith, here, c.rank.ensures, c.if-rank-sought.true));
      behind = c.loop-low.invariant.behind;
    }

pub loop-low-preserved : goal.loop-low-preserved
loop-low-preserved c =
    let lines = c.args.lines.now in
    let middle = c.loop-low.low + (c.loop-low.high - c.loop-low.low) / 2 in
    let within : middle < length lines = omega arith in
    let here = rank_at lines middle c.index-lines-middle.result within c.index-lines-middle.is in
    record {
      within = omega arith;
      apart = omega arith;
      before = c.loop-low.invariant.before;
      behind = behind_more lines c.requires middle c.rank-sought.result (omega (arith, here, c.rank.ensures, c.if-rank-sought.false));
    }
