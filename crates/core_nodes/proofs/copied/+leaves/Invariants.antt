use Rattle.std.proofs.Common.{◌-◌, ◌^◌}
use Rattle.asl_tree.specs.View.{trees_of}
use Rattle.core_nodes.specs.Weights.{integer_weight, leaves, leaves_in}
use Rattle.core_nodes.specs.Whole.{AreWhole}
use Rattle.core_nodes.proofs.Walks.{Counted}
use Rattle.core_nodes.proofs.copied.+leaves.Given as goal

abbrev pub invariant-leaves_among-loop-node : goal.invariant-leaves_among-loop-node
invariant-leaves_among-loop-node l = AreWhole (trees_of l.nodes) → Counted (2 ^ 64 - 1) (leaves_in (integer_weight l.fold)) (leaves (integer_weight l.fold)) l.nodes l.node-index l.count
