use Rattle.std.proofs.Common.{◌≡◌, ◌≤◌, ◌+◌, ◌*◌, length}
use Rattle.std.specs.Prelude.{reverse}
use Rattle.term_plans.specs.Plans.{plan_of, plans_of, join}
use Rattle.asl_numbers.specs.Numbers.{inside, nodes}
use Rattle.descriptor_fields.specs.Declaring.{declaring}
use Rattle.descriptor_fields.proofs.declare.+declare.Given as goal

abbrev pub invariant-declaring-loop-node : goal.invariant-declaring-loop-node
invariant-declaring-loop-node l = record {
  plans : join (plans_of l.out.items) (declaring (plans_of (reverse l.left.items))) ≡ declaring (plans_of l.fn.nodes.items);
  size : nodes (plans_of l.left.items) ≤ nodes (plans_of l.fn.nodes.items);
}

abbrev pub decreases-declaring-loop-node : goal.decreases-declaring-loop-node
decreases-declaring-loop-node l = length l.left.items

abbrev pub decreases-declaring : goal.decreases-declaring
decreases-declaring l = 3 * nodes (plans_of l.nodes.items)

abbrev pub decreases-add_term : goal.decreases-add_term
decreases-add_term l = 3 * inside (plan_of l.node.term) + 2

abbrev pub decreases-open : goal.decreases-open
decreases-open l = 3 * inside (plan_of l.term) + 1
