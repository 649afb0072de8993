use Rattle.descriptor_shapes.proofs.Blocks.{checked_within, resolved_within, names_told_within, kinds_told_within}
use Rattle.descriptor_shapes.proofs.laws.places_stay.Goals as goal

pub returns : goal.returns
returns c = record { checked = checked_within; resolved = resolved_within; names = names_told_within; kinds = kinds_told_within }
