use Rattle.descriptor_shapes.proofs.Blocks.{resolved_names, resolved_kinds, resolved_calls, resolved_index}
use Rattle.descriptor_shapes.proofs.laws.untold_are_resolved.Goals as goal

pub returns : goal.returns
returns c = record { names = resolved_names; kinds = resolved_kinds; calls = resolved_calls; index = resolved_index }
