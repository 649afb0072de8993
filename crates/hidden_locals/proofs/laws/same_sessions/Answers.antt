use Rattle.std.specs.Prelude.{◌≡◌, true}
use Rattle.hidden_locals.proofs.Sessions.{same_sessions}
use Rattle.hidden_locals.proofs.laws.same_sessions.Goals as goal

pub returns : goal.returns
returns c = λ convert kept. same_sessions convert (λ body. kept body ≡ true)
