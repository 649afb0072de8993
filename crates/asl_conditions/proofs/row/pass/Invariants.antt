use Rattle.std.proofs.Common.{◌≡◌, drop, None}
use Rattle.asl_conditions.specs.Operators as spec
use Rattle.asl_conditions.proofs.Rows.{with_front}
use Rattle.asl_conditions.proofs.row.pass.Given as goal

abbrev pub invariant-loop-operand : goal.invariant-loop-operand
invariant-loop-operand l = with_front l.out (spec.pass l.level l.left (drop l.operand-index l.row) l.last) ≡ spec.pass l.level None l.row l.last
