use Rattle.std.proofs.Common.{◌+◌, ◌*◌}
use Rattle.term_plans.specs.Plans.{plans_of}
use Rattle.asl_numbers.specs.Numbers.{nodes}
use Rattle.switch_checks.proofs.Walks.{Remains}
use Rattle.switch_checks.proofs.locals.+walk.Given as goal

abbrev pub invariant-method_errors-loop-index : goal.invariant-method_errors-loop-index
invariant-method_errors-loop-index l = Remains l.nodes l.index l.initial.out l.out

abbrev pub decreases-method_errors : goal.decreases-method_errors
decreases-method_errors l = 4 * nodes (plans_of l.nodes.now) + 2

abbrev pub decreases-term_errors : goal.decreases-term_errors
decreases-term_errors l = 4 * nodes (plans_of l.alone.now) + 1

abbrev pub decreases-body_errors : goal.decreases-body_errors
decreases-body_errors l = 4 * nodes (plans_of l.terms.now) + 3

abbrev pub decreases-form_errors : goal.decreases-form_errors
decreases-form_errors l = 4 * nodes (plans_of l.body.now) + 4
