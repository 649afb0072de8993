use Rattle.descriptor_shapes.proofs.Blocks.{resolved_formed, checked_are_terms, checked_whole}
use Rattle.descriptor_shapes.proofs.laws.resolved_are_formed.Goals as goal

pub returns : goal.returns
returns c = record { formed = resolved_formed; terms = checked_are_terms; whole = checked_whole }
