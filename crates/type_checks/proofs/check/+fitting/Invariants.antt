use Rattle.std.proofs.Common.{◌+◌, ◌*◌}
use Rattle.term_plans.specs.Plans.{plan_of, plans_of}
use Rattle.asl_numbers.specs.Numbers.{inside, nodes}
use Rattle.type_checks.proofs.check.+fitting.Given as goal

abbrev pub decreases-fits : goal.decreases-fits
decreases-fits l = 3 * inside (plan_of l.term.now) + 2

abbrev pub decreases-form_fits : goal.decreases-form_fits
decreases-form_fits l = 3 * nodes (plans_of l.args.now) + 1

abbrev pub decreases-argument_fits : goal.decreases-argument_fits
decreases-argument_fits l = 3 * nodes (plans_of l.args.now)
