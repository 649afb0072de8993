use Rattle.std.proofs.Common.{None, refl, sym, ◌∙◌}
use Rattle.block_outcomes.proofs.Joins.{faulty_sorted, same_more}
use Rattle.block_outcomes.proofs.outcome.with_errors.Goals as goal

pub returns-in-None : goal.returns-in-None
returns-in-None c = λ os h. faulty_sorted None os c.args.errors c.args.sorted c.args.sorted (sym c.class_in-class.ensures ∙ c.in-None.is) h (same_more _) (same_more _) (same_more _) (same_more _) refl

pub returns-in-Some : goal.returns-in-Some
returns-in-Some c = λ os h. c.put.ensures os (sym c.class_in-class.ensures ∙ c.in-Some.is) h
