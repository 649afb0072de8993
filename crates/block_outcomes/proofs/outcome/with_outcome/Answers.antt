use Rattle.std.proofs.Common.{refl}
use Rattle.block_outcomes.proofs.Joins.{done_sorted}
use Rattle.block_outcomes.proofs.outcome.with_outcome.Goals as goal

pub returns-in_ok-push-in-Done : goal.returns-in_ok-push-in-Done
returns-in_ok-push-in-Done c = λ os h. rw c.in-Done.is (done_sorted os c.in-Done.signature c.in-Done.own c.in-Done.pieces c.args.sorted _ h refl refl refl refl c.in_ok-push-in-Done.ensures.ok)
