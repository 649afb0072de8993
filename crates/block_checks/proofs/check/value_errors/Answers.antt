use Rattle.std.proofs.Common.{sym, ◌∙◌}
use Rattle.term_plans.specs.Plans.{plans_of}
use Rattle.switch_checks.proofs.Absent.{none_repeated}
use Rattle.block_checks.proofs.check.value_errors.Goals as goal

pub returns-else-present : goal.returns-else-present
returns-else-present c = c.new.ensures ∙ sym (none_repeated c.args.width (plans_of c.args.terms.now) (sym c.requires.switches ∙ c.if-present.false))
