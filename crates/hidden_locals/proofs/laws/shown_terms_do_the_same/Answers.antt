use Rattle.std.specs.Prelude.{◌≡◌, true}
use Rattle.hidden_locals.proofs.Sessions.{does_as}
use Rattle.hidden_locals.proofs.laws.shown_terms_do_the_same.Goals as goal

pub returns : goal.returns
returns c = λ convert kept unchanged. does_as convert (λ body. kept body ≡ true) (λ body. unchanged body ≡ true)
