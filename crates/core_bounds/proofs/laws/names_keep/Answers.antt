use Rattle.core_bounds.proofs.Naming.{weights_keep}
use Rattle.core_bounds.proofs.laws.names_keep.Goals as goal

pub returns : goal.returns
returns c = weights_keep
