use Rattle.wrapped_externals.proofs.Same.{same_wrapped}
use Rattle.wrapped_externals.proofs.laws.same_sessions.Goals as goal

pub returns : goal.returns
returns c = same_wrapped
