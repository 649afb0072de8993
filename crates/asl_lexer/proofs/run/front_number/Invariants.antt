use Rattle.std.proofs.Common.{◌≡◌, ◌<◌, ◌^◌, ℕ, true, get_or, take}
use Rattle.std.specs.Char.{is_digit}
use Rattle.asl_lexer.specs.Runs.{number_of}
use Rattle.asl_lexer.proofs.run.front_number.Given as goal

abbrev pub invariant-loop-width : goal.invariant-loop-width
invariant-loop-width l = record {
  worth : l.value ≡ number_of l.base 0 (take l.width l.bytes);
  fits : l.value < 2 ^ 64;
  digits : (k : ℕ) → k < l.width → is_digit (get_or l.bytes k 0) l.base ≡ true;
}
