use Rattle.program_shapes.proofs.NameLengths.{bytes_counted}
use Rattle.program_shapes.proofs.laws.name_lengths.Goals as goal

pub returns : goal.returns
returns c = bytes_counted
