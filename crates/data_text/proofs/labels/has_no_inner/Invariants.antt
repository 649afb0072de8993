use Rattle.std.proofs.Common.{◌≡◌, length}
use Rattle.data_text.specs.Labels.{has_no_inner}
use Rattle.data_text.proofs.labels.has_no_inner.Given as goal

abbrev pub invariant-loop-rest : goal.invariant-loop-rest
invariant-loop-rest l = has_no_inner l.rest ≡ has_no_inner l.text

abbrev pub decreases-loop-rest : goal.decreases-loop-rest
decreases-loop-rest l = length l.rest
