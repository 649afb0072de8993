use Rattle.std.proofs.Common.{◌+◌, ◌*◌}
use Rattle.term_plans.specs.Plans.{plans_of}
use Rattle.asl_numbers.specs.Numbers.{nodes}
use Rattle.region_checks.proofs.Walks.{Remains}
use Rattle.region_checks.proofs.measure.+walk.Given as goal

abbrev pub invariant-all_measures-loop-index : goal.invariant-all_measures-loop-index
invariant-all_measures-loop-index l = Remains l.width l.nodes l.index l.initial.out.items l.out.items

abbrev pub decreases-all_measures : goal.decreases-all_measures
decreases-all_measures l = 3 * nodes (plans_of l.nodes.now) + 2

abbrev pub decreases-term_measures : goal.decreases-term_measures
decreases-term_measures l = 3 * nodes (plans_of l.alone.now) + 1

abbrev pub decreases-form_measures : goal.decreases-form_measures
decreases-form_measures l = 3 * nodes (plans_of l.body.now) + 3
