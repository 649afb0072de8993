use Rattle.std.specs.Prelude.{◌≡◌, true}
use Rattle.hidden_locals.proofs.Flags.{looped_value, uncrossed_value}
use Rattle.hidden_locals.proofs.laws.values_may_be_kept.Goals as goal

pub returns-clause-crossed : goal.returns-clause-crossed
returns-clause-crossed c = λ convert kept. looped_value convert (λ body. kept body ≡ true)

pub returns-clause-uncrossed : goal.returns-clause-uncrossed
returns-clause-uncrossed c = λ convert kept. uncrossed_value convert (λ body. kept body ≡ true)
