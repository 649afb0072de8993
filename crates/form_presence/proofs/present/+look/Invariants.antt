use Rattle.std.proofs.Common.{◌+◌, ◌*◌}
use Rattle.term_plans.specs.Plans.{plans_of}
use Rattle.asl_numbers.specs.Numbers.{nodes}
use Rattle.form_presence.proofs.Walks.{IsSeen}
use Rattle.form_presence.proofs.present.+look.Given as goal

abbrev pub invariant-look-loop-node : goal.invariant-look-loop-node
invariant-look-loop-node l = IsSeen l.fn.seen l.terms l.node-index l.seen

abbrev pub decreases-look_in : goal.decreases-look_in
decreases-look_in l = 3 * (nodes (plans_of l.args.now) + nodes (plans_of l.body.now)) + 2

abbrev pub decreases-look_within : goal.decreases-look_within
decreases-look_within l = 3 * nodes (plans_of l.terms.now) + 1

abbrev pub decreases-look : goal.decreases-look
decreases-look l = 3 * nodes (plans_of l.terms.now)
