use Rattle.std.proofs.Common.{◌≡◌, ◌++◌, length}
use Rattle.data_generic.specs.Templates.{pairs}
use Rattle.data_generic.proofs.template.put_pairs.Given as goal

abbrev pub invariant-loop-rest : goal.invariant-loop-rest
invariant-loop-rest l = l.out.items ++ pairs l.rest ≡ l.fn.out.items ++ pairs l.bytes

abbrev pub decreases-loop-rest : goal.decreases-loop-rest
decreases-loop-rest l = length l.rest
