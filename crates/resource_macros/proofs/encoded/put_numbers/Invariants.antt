use Rattle.std.proofs.Common.{◌≡◌, ◌++◌, drop}
use Rattle.resource_macros.specs.Resources.{numbers_bytes}
use Rattle.resource_macros.proofs.encoded.put_numbers.Given as goal

abbrev pub invariant-loop-number : goal.invariant-loop-number
invariant-loop-number l = l.out.items ++ numbers_bytes l.width (drop l.number-index l.numbers) ≡ l.fn.out.items ++ numbers_bytes l.width l.numbers
