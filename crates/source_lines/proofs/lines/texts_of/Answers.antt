use Rattle.std.proofs.Common.{refl, arith}
use Rattle.source_lines.proofs.Added.{tells_none, tells_at, tells_all}
use Rattle.source_lines.proofs.lines.texts_of.Goals as goal

pub loop-left-init : goal.loop-left-init
loop-left-init c = (omega arith, tells_none c.new-texts.result c.args.lines.now c.new-texts.ensures.empty)

pub loop-left-preserved : goal.loop-left-preserved
loop-left-preserved c = (omega (arith, c.loop-left.invariant.0), tells_at c.loop-left.texts c.insert.new.self c.args.lines.now c.loop-left.left c.index-lines-left.result _ c.loop-left-test.true c.loop-left.invariant.0 c.index-lines-left.is refl c.in_ok-insert.ensures.updates c.loop-left.invariant.1)

pub returns : goal.returns
returns c = tells_all c.loop-left.texts c.args.lines.now c.loop-left.left c.loop-left-test.false c.loop-left.invariant.1
