use Rattle.std.specs.Prelude.{◌≡◌, true}
use Rattle.hidden_locals.proofs.Flows.{from_crossed}
use Rattle.hidden_locals.proofs.laws.flags_are_hidden.Goals as goal

pub returns : goal.returns
returns c = λ convert kept w flag m other. from_crossed convert (λ body. kept body ≡ true) w flag {m = m} {m' = other}
