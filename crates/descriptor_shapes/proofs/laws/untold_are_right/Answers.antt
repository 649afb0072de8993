use Rattle.descriptor_shapes.proofs.Blocks.{untold_names, untold_kinds, untold_uses, untold_below}
use Rattle.descriptor_shapes.proofs.laws.untold_are_right.Goals as goal

pub returns : goal.returns
returns c = record { names = untold_names; kinds = untold_kinds; uses = untold_uses; below = untold_below }
