use Rattle.asl_fold.proofs.Same.{same_folded}
use Rattle.asl_fold.proofs.laws.same_sessions.Goals as goal

pub returns : goal.returns
returns c = same_folded
