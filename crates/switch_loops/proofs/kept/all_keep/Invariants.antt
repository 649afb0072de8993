use Rattle.std.proofs.Common.{◌≡◌, true, take}
use Rattle.switch_loops.specs.Kept.{all_kept}
use Rattle.switch_loops.proofs.kept.all_keep.Given as goal

abbrev pub invariant-loop-node : goal.invariant-loop-node
invariant-loop-node l = all_kept l.inside (take l.node-index l.nodes) ≡ true
