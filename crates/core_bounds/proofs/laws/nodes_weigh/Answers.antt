use Rattle.core_bounds.proofs.Counting.{weights_count}
use Rattle.core_bounds.proofs.laws.nodes_weigh.Goals as goal

pub returns : goal.returns
returns c = weights_count
