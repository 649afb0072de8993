use Rattle.std.proofs.Common.{ap}
use Rattle.descriptor_shapes.proofs.Blocks.{unnamed_checked, unnamed_resolved, unnamed_broken, unnamed_paths, unnamed_owners, unnamed_names, unnamed_kinds}
use Rattle.descriptor_shapes.proofs.laws.unnamed_stay.Goals as goal

pub returns : goal.returns
returns c = record { checked = unnamed_checked; resolved = unnamed_resolved; fields = unnamed_broken; paths = λ ps none path. ap (λ has. has path) (unnamed_paths ps none); owners = unnamed_owners; names = unnamed_names; kinds = unnamed_kinds }
