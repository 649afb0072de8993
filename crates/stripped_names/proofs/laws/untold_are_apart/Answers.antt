use Rattle.stripped_names.proofs.Apart.{untold_apart}
use Rattle.stripped_names.proofs.laws.untold_are_apart.Goals as goal

pub returns : goal.returns
returns c = untold_apart
