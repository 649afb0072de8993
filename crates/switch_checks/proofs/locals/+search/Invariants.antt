use Rattle.std.proofs.Common.{◌+◌, ◌*◌}
use Rattle.term_plans.specs.Plans.{plan_of, plans_of}
use Rattle.asl_numbers.specs.Numbers.{inside, nodes}
use Rattle.switch_checks.proofs.Walks.{Searched}
use Rattle.switch_checks.proofs.locals.+search.Given as goal

abbrev pub invariant-first_switch-loop-node : goal.invariant-first_switch-loop-node
invariant-first_switch-loop-node l = Searched l.nodes l.node-index

abbrev pub decreases-switch_in : goal.decreases-switch_in
decreases-switch_in l = 2 * inside (plan_of l.node.now.term) + 1

abbrev pub decreases-first_switch : goal.decreases-first_switch
decreases-first_switch l = 2 * nodes (plans_of l.nodes.now)
