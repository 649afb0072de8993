use Rattle.asl_lower.proofs.Named.{same_named}
use Rattle.asl_lower.proofs.laws.same_sessions.Goals as goal

pub returns : goal.returns
returns c = same_named
