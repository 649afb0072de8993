use Rattle.std.proofs.Common.{◌≡◌, ◌-◌}
use Rattle.asl_conditions.specs.Operators.{passes}
use Rattle.asl_conditions.proofs.row.row_value.Given as goal

abbrev pub invariant-loop-level : goal.invariant-loop-level
invariant-loop-level l = passes (11 - l.level) l.level l.row l.last ≡ passes 10 1 l.fn.row l.fn.last
