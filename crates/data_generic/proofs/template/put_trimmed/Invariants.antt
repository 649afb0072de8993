use Rattle.std.proofs.Common.{◌≡◌, ◌++◌, length}
use Rattle.data_generic.specs.Templates.{trimmed}
use Rattle.data_generic.proofs.template.put_trimmed.Given as goal

abbrev pub invariant-loop-rest : goal.invariant-loop-rest
invariant-loop-rest l = l.out.items ++ trimmed l.rest ≡ l.fn.out.items ++ trimmed l.label

abbrev pub decreases-loop-rest : goal.decreases-loop-rest
decreases-loop-rest l = length l.rest
