use Rattle.std.proofs.Common.{◌*◌, ◌+◌}
use Rattle.term_plans.specs.Plans.{plan_of, plans_of}
use Rattle.asl_numbers.specs.Numbers.{inside, nodes}
use Rattle.copy_checks.proofs.Searching.{Searched}
use Rattle.copy_checks.proofs.copies.+first.Given as goal

abbrev pub invariant-first_for-loop-node : goal.invariant-first_for-loop-node
invariant-first_for-loop-node l = Searched l.nodes l.node-index

abbrev pub decreases-first_for : goal.decreases-first_for
decreases-first_for l = 2 * nodes (plans_of l.nodes.now)

abbrev pub decreases-for_at : goal.decreases-for_at
decreases-for_at l = 2 * inside (plan_of l.node.now.term) + 1
