use Rattle.loop_shapes.proofs.Formed.{loops_shaped}
use Rattle.loop_shapes.proofs.laws.loops_are_shaped.Goals as goal

pub returns : goal.returns
returns c = loops_shaped
