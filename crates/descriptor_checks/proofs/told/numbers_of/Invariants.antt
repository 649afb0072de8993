use Rattle.std.proofs.Common.{◌≡◌, take}
use Rattle.descriptor_checks.specs.Fields.{numbers_in, paths_at}
use Rattle.descriptor_checks.proofs.told.numbers_of.Given as goal

abbrev pub invariant-loop-number : goal.invariant-loop-number
invariant-loop-number l = l.found.items ≡ numbers_in l.to (paths_at l.from (take l.number-index l.numbers))
