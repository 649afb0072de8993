use Rattle.switch_loops.proofs.StandRows.{Stands}
use Rattle.switch_loops.proofs.standing.+stand.Given as goal

abbrev pub invariant-stand_among-loop-node : goal.invariant-stand_among-loop-node
invariant-stand_among-loop-node l = Stands l.fn.found.named l.nodes l.node-index l.found.named
