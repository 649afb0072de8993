use Rattle.std.proofs.Common.{◌+◌, ◌*◌}
use Rattle.term_plans.specs.Plans.{plan_of, plans_of}
use Rattle.asl_numbers.specs.Numbers.{inside, nodes}
use Rattle.type_checks.proofs.Listing.{Left}
use Rattle.type_checks.proofs.size.+lists.Given as goal

abbrev pub invariant-all_errors-loop-node : goal.invariant-all_errors-loop-node
invariant-all_errors-loop-node l = Left l.width l.nodes l.node-index l.initial.out l.out

abbrev pub decreases-term_errors : goal.decreases-term_errors
decreases-term_errors l = 2 * inside (plan_of l.node.now.term) + 1

abbrev pub decreases-all_errors : goal.decreases-all_errors
decreases-all_errors l = 2 * nodes (plans_of l.nodes.now)
