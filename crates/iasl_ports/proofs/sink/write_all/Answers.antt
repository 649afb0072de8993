use Rattle.std.proofs.Common.{ℕ, rules, arith, length-drop}
use Rattle.std.proofs.lemmas.List.{take_rest}
use Rattle.iasl_ports.specs.GainedLaws.{gains_next}
use Rattle.iasl_ports.proofs.sink.write_all.Goals as goal

pub loop-at-preserved : goal.loop-at-preserved
loop-at-preserved g c = record {
  inside = omega (arith, c.in_ok-count.ensures.bound, length-drop {A = ℕ});
  gained = gains_next c.args.bytes.now c.loop-at.at c.in_ok-count.count c.loop-at.invariant.gained (rw take_rest at c.in_ok-count.ensures.some);
  faults = search rules;
}
