use Rattle.else_runs.proofs.Nested.{same_nested}
use Rattle.else_runs.proofs.laws.same_sessions.Goals as goal

pub returns : goal.returns
returns c = same_nested
