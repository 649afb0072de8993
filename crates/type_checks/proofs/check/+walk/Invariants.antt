use Rattle.std.proofs.Common.{◌+◌, ◌*◌}
use Rattle.term_plans.specs.Plans.{plan_of, plans_of}
use Rattle.asl_numbers.specs.Numbers.{inside, nodes}
use Rattle.type_checks.specs.Names.{listed}
use Rattle.type_checks.proofs.Walks.{Remains}
use Rattle.type_checks.proofs.check.+walk.Given as goal

abbrev pub invariant-errors_of-loop-at : goal.invariant-errors_of-loop-at
invariant-errors_of-loop-at l = Remains (listed l.names) l.asker l.nodes l.fn.first l.initial.out l.at l.next l.out

abbrev pub decreases-errors_inside : goal.decreases-errors_inside
decreases-errors_inside l = 2 * inside (plan_of l.term.now) + 1

abbrev pub decreases-errors_of : goal.decreases-errors_of
decreases-errors_of l = 2 * nodes (plans_of l.nodes.now)
