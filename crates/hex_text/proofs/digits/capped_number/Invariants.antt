use Rattle.std.proofs.Common.{◌≡◌, take, min, ◌-◌, ◌^◌}
use Rattle.hex_text.specs.Digits.{number_of}
use Rattle.hex_text.proofs.digits.capped_number.Given as goal

abbrev pub invariant-loop-digit : goal.invariant-loop-digit
invariant-loop-digit l = l.number ≡ min (number_of (take l.digit-index l.digits)) (2 ^ 128 - 1)
