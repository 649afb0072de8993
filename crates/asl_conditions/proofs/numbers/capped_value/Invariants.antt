use Rattle.std.proofs.Common.{◌≡◌, take, min, ◌^◌}
use Rattle.asl_conditions.specs.Numbers.{value_in}
use Rattle.asl_conditions.proofs.numbers.capped_value.Given as goal

abbrev pub invariant-loop-digit : goal.invariant-loop-digit
invariant-loop-digit l = l.value ≡ min (value_in l.base (take l.digit-index l.digits)) (2 ^ 64)
