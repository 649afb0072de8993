use Rattle.std.specs.Prelude.{◌≡◌, true}
use Rattle.hidden_locals.proofs.Flags.{crossed_continue, crossed_inner, crossed_outer}
use Rattle.hidden_locals.proofs.laws.continues_may_cross.Goals as goal

pub returns-clause-leaves : goal.returns-clause-leaves
returns-clause-leaves c = λ convert kept. crossed_continue convert (λ body. kept body ≡ true)

pub returns-clause-inner : goal.returns-clause-inner
returns-clause-inner c = λ convert kept. crossed_inner convert (λ body. kept body ≡ true)

pub returns-clause-outer : goal.returns-clause-outer
returns-clause-outer c = λ convert kept. crossed_outer convert (λ body. kept body ≡ true)
