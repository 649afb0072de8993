use Rattle.std.proofs.Common.{◌+◌, ◌*◌}
use Rattle.term_plans.specs.Plans.{plan_of, plans_of}
use Rattle.asl_numbers.specs.Numbers.{inside, nodes}
use Rattle.switch_checks.proofs.Notes.{Left}
use Rattle.switch_checks.proofs.repeat.+walk.Given as goal

abbrev pub invariant-all_repeats-loop-node : goal.invariant-all_repeats-loop-node
invariant-all_repeats-loop-node l = Left l.width l.nodes l.node-index l.initial.out l.out

abbrev pub decreases-term_repeats : goal.decreases-term_repeats
decreases-term_repeats l = 2 * inside (plan_of l.term.now) + 1

abbrev pub decreases-all_repeats : goal.decreases-all_repeats
decreases-all_repeats l = 2 * nodes (plans_of l.nodes.now)
