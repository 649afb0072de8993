use Rattle.switch_checks.proofs.Bytes.{Enough}
use Rattle.switch_checks.proofs.value.trimmed_count.Given as goal

abbrev pub invariant-loop-count : goal.invariant-loop-count
invariant-loop-count l = Enough l.bytes l.count

abbrev pub decreases-loop-count : goal.decreases-loop-count
decreases-loop-count l = l.count
