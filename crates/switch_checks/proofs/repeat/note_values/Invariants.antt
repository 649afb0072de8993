use Rattle.switch_checks.specs.Repeats.{value_at}
use Rattle.switch_checks.specs.Values.{values_in}
use Rattle.switch_checks.proofs.Notes.{Remains}
use Rattle.switch_checks.proofs.repeat.note_values.Given as goal

abbrev pub invariant-loop-node : goal.invariant-loop-node
invariant-loop-node l = Remains (value_at l.width) l.nodes l.node-index (values_in l.initial.seen) (values_in l.seen) l.initial.out l.out
