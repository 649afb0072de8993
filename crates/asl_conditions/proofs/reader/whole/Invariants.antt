use Rattle.std.proofs.Common.{◌≡◌, length}
use Rattle.asl_conditions.specs.Reading.{whole}
use Rattle.asl_conditions.proofs.reader.whole.Given as goal

abbrev pub invariant-loop-opened : goal.invariant-loop-opened
invariant-loop-opened l = whole l.row l.opened l.value ≡ whole l.row l.fn.opened l.fn.value

abbrev pub decreases-loop-opened : goal.decreases-loop-opened
decreases-loop-opened l = length l.opened
