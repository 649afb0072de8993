use Rattle.std.proofs.Common.{◌≡◌, ◌≤◌, ◌+◌, ◌*◌, length}
use Rattle.std.specs.Prelude.{reverse}
use Rattle.term_plans.specs.Plans.{plan_of, plans_of, join}
use Rattle.asl_numbers.specs.Numbers.{inside, nodes}
use Rattle.descriptor_fields.specs.Declaring.{stripped}
use Rattle.descriptor_fields.proofs.strip.+strip.Given as goal

abbrev pub invariant-stripped-loop-node : goal.invariant-stripped-loop-node
invariant-stripped-loop-node l = record {
  plans : join (plans_of l.out.items) (stripped (plans_of (reverse l.left.items))) ≡ stripped (plans_of l.fn.nodes.items);
  size : nodes (plans_of l.left.items) ≤ nodes (plans_of l.fn.nodes.items);
}

abbrev pub decreases-stripped-loop-node : goal.decreases-stripped-loop-node
decreases-stripped-loop-node l = length l.left.items

abbrev pub decreases-stripped : goal.decreases-stripped
decreases-stripped l = 3 * nodes (plans_of l.nodes.items)

abbrev pub decreases-add_term : goal.decreases-add_term
decreases-add_term l = 3 * inside (plan_of l.node.term) + 2

abbrev pub decreases-close : goal.decreases-close
decreases-close l = 3 * inside (plan_of l.term) + 1
