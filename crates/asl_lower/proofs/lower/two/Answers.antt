use Rattle.asl_lower.proofs.Lowered.{two_removed}
use Rattle.asl_lower.proofs.lower.two.Goals as goal

pub returns : goal.returns
returns c = two_removed c.args.nodes.items c.remove-second.new.self.items c.remove-first.result c.remove-second.result c.requires c.remove-second.ensures.value c.remove-second.ensures.items c.remove-first.ensures.value
