use Rattle.core_bounds.proofs.Folding.{weights_keep}
use Rattle.core_bounds.proofs.laws.folding_keeps.Goals as goal

pub returns : goal.returns
returns c = weights_keep
