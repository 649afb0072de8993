use Rattle.std.proofs.Common.{◌-◌, refl, arith}
use Rattle.acpi_values.specs.Operators.{row_of}
use Rattle.asl_lower.proofs.Lowered.{target_none, target_next, target_last}
use Rattle.asl_lower.proofs.lower.put_targets.Goals as goal

pub returns-then-left-eq0 : goal.returns-then-left-eq0
returns-then-left-eq0 c = target_none c.args.args.now.items c.args.target (row_of c.args.op).targets (grind (arith, c.targets-left.ensures, c.if-left-eq0.true))

pub loop-left-preserved : goal.loop-left-preserved
loop-left-preserved c = record {
  behind = target_next c.loop-left.args.items c.push.new.self.items _ c.args.target c.loop-left.left (c.loop-left.left - 1) _ c.loop-left-test.true (omega (arith, c.loop-left-test.true)) c.in_ok-push.ensures.items refl c.loop-left.invariant.behind;
  some = omega (arith, c.loop-left-test.true);
}

pub returns : goal.returns
returns c = target_last c.loop-left.args.items c.push-2.new.self.items c.args.target c.loop-left.left _ (omega (arith, c.loop-left-test.false, c.loop-left.invariant.some)) c.in_ok-push-2.ensures.items c.loop-left.invariant.behind
