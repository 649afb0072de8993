use Rattle.std.proofs.Common.{◌+◌, ◌*◌, ◌≡◌, drop}
use Rattle.term_plans.specs.Plans.{plan_of, plans_of}
use Rattle.asl_numbers.specs.Numbers.{inside, nodes}
use Rattle.type_checks.proofs.check.+count.Given as goal

abbrev pub invariant-count-loop-node : goal.invariant-count-loop-node
invariant-count-loop-node l = l.next + nodes (plans_of (drop l.node-index l.nodes)) ≡ nodes (plans_of l.nodes)

abbrev pub decreases-count_inside : goal.decreases-count_inside
decreases-count_inside l = 2 * inside (plan_of l.term.now) + 1

abbrev pub decreases-count : goal.decreases-count
decreases-count l = 2 * nodes (plans_of l.nodes.now)
