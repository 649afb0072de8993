use Rattle.std.proofs.Common.{◌+◌, ◌*◌}
use Rattle.term_plans.specs.Plans.{plan_of, plans_of}
use Rattle.asl_numbers.specs.Numbers.{inside, nodes}
use Rattle.statement_checks.proofs.Walk.{Remains}
use Rattle.statement_checks.proofs.check.+walk.Given as goal

abbrev pub invariant-all_errors-loop-node : goal.invariant-all_errors-loop-node
invariant-all_errors-loop-node l = Remains l.around l.nodes l.node-index l.initial.out l.out

abbrev pub decreases-term_errors : goal.decreases-term_errors
decreases-term_errors l = 4 * inside (plan_of l.node.now.term) + 3

abbrev pub decreases-errors_in_form : goal.decreases-errors_in_form
decreases-errors_in_form l = 4 * (nodes (plans_of l.args.now) + nodes (plans_of l.body.now)) + 2

abbrev pub decreases-form_errors : goal.decreases-form_errors
decreases-form_errors l = 4 * (nodes (plans_of l.args.now) + nodes (plans_of l.body.now)) + 1

abbrev pub decreases-all_errors : goal.decreases-all_errors
decreases-all_errors l = 4 * nodes (plans_of l.nodes.now)
