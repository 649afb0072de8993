use Rattle.std.proofs.Common.{sym, ◌∙◌}
use Rattle.term_plans.specs.Plans.{plans_of}
use Rattle.type_checks.proofs.Absent.{none_long}
use Rattle.block_checks.proofs.check.length_errors.Goals as goal

pub returns-else-present : goal.returns-else-present
returns-else-present c = c.new.ensures ∙ sym (none_long c.args.width (plans_of c.args.terms.now) (sym c.requires.lists ∙ c.if-present.false))
