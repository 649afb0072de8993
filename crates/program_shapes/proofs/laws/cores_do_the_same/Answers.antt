use Rattle.program_shapes.proofs.SameCores.{same_cores}
use Rattle.program_shapes.proofs.laws.cores_do_the_same.Goals as goal

pub returns : goal.returns
returns c = same_cores
