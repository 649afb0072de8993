use Rattle.std.proofs.Common.{◌-◌, ◌^◌}
use Rattle.asl_tree.specs.View.{trees_of}
use Rattle.core_nodes.specs.Nodes.{nodes_of, nodes_in}
use Rattle.core_nodes.specs.Whole.{AreWhole}
use Rattle.core_nodes.proofs.Walks.{Counted}
use Rattle.core_nodes.proofs.count.+count.Given as goal

abbrev pub invariant-counted-loop-node : goal.invariant-counted-loop-node
invariant-counted-loop-node l = AreWhole (trees_of l.terms) → Counted (2 ^ 64 - 1) nodes_in nodes_of l.terms l.node-index l.count
