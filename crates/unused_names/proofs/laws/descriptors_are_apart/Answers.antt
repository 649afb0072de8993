use Rattle.unused_names.proofs.Sparing.{apart}
use Rattle.unused_names.proofs.laws.descriptors_are_apart.Goals as goal

pub returns : goal.returns
returns c = apart
