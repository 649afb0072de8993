use Rattle.std.proofs.Common.{◌≡◌, ◌+◌, ◌*◌, take}
use Rattle.asl_tree.specs.View.{trees_of}
use Rattle.term_plans.specs.Plans.{plans_of}
use Rattle.asl_prints.specs.Nodes.{nodes_size, term_size}
use Rattle.asl_prints.specs.Numbers.{numbers_of}
use Rattle.asl_prints.proofs.copy.+copy.Given as goal

abbrev pub invariant-copied_all-loop-node : goal.invariant-copied_all-loop-node
invariant-copied_all-loop-node l = record {
  trees : trees_of l.copies.items ≡ trees_of (take l.node-index l.nodes);
  plans : plans_of l.copies.items ≡ plans_of (take l.node-index l.nodes);
  numbers : numbers_of l.copies.items ≡ numbers_of (take l.node-index l.nodes);
}

abbrev pub decreases-copied : goal.decreases-copied
decreases-copied l = 4 * (term_size l.node.now.term) + 2

abbrev pub decreases-copied_term : goal.decreases-copied_term
decreases-copied_term l = 4 * (term_size l.term.now) + 1

abbrev pub decreases-copied_all : goal.decreases-copied_all
decreases-copied_all l = 4 * (nodes_size l.nodes.now) + 3
