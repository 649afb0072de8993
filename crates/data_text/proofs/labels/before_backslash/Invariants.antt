use Rattle.std.proofs.Common.{◌≡◌, length}
use Rattle.data_text.specs.Labels.{before_backslash}
use Rattle.data_text.proofs.labels.before_backslash.Given as goal

abbrev pub invariant-loop-rest : goal.invariant-loop-rest
invariant-loop-rest l = before_backslash l.rest ≡ before_backslash l.text

abbrev pub decreases-loop-rest : goal.decreases-loop-rest
decreases-loop-rest l = length l.rest
