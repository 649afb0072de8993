use Rattle.switch_checks.proofs.Silent.{have_locals}
use Rattle.switch_checks.proofs.laws.locals_are_enough.Goals as goal

pub returns : goal.returns
returns c = have_locals
