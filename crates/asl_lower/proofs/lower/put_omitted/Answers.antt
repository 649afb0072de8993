use Rattle.std.proofs.Common.{◌-◌, refl, arith}
use Rattle.asl_lower.proofs.Lowered.{omitted_next, omitted_none}
use Rattle.asl_lower.proofs.lower.put_omitted.Goals as goal

pub loop-left-preserved : goal.loop-left-preserved
loop-left-preserved c = omitted_next c.loop-left.args.items c.push.new.self.items _ c.loop-left.left (c.loop-left.left - 1) _ (omega (arith, c.loop-left-test.true)) c.in_ok-push.ensures.items refl c.loop-left.invariant

pub returns : goal.returns
returns c = omitted_none c.loop-left.args.items c.loop-left.left _ (omega (arith, c.loop-left-test.false)) c.loop-left.invariant
