use Rattle.std.proofs.Common.{◌+◌, ◌*◌}
use Rattle.term_plans.specs.Plans.{plan_of, plans_of}
use Rattle.asl_numbers.specs.Numbers.{inside, nodes}
use Rattle.asl_numbers.proofs.Loops.{IsNumbered}
use Rattle.asl_numbers.proofs.number.+number.Given as goal

abbrev pub invariant-number_nodes-loop-node : goal.invariant-number_nodes-loop-node
invariant-number_nodes-loop-node l = IsNumbered l.first l.initial.node-items l.node-items l.node-index l.next

abbrev pub decreases-number_nodes : goal.decreases-number_nodes
decreases-number_nodes l = 3 * nodes (plans_of l.nodes.now.items) + 1

abbrev pub decreases-number_node : goal.decreases-number_node
decreases-number_node l = 3 * inside (plan_of l.node.now.term) + 3

abbrev pub decreases-number_within : goal.decreases-number_within
decreases-number_within l = 3 * nodes (plans_of l.body.now.items) + 2
