use Rattle.core_bounds.proofs.Looping.{loops_weigh}
use Rattle.core_bounds.proofs.laws.loops_keep.Goals as goal

pub returns : goal.returns
returns c = loops_weigh
