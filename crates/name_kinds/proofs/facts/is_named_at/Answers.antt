use Rattle.name_kinds.proofs.Noting.{flag_here}
use Rattle.name_kinds.proofs.facts.is_named_at.Goals as goal

pub returns : goal.returns
returns g c = flag_here c.args.facts.now.index.paths c.args.facts.now.index.named.items c.args.number c.index.result.now g.whole.all c.len-count.ensures.distinct c.requires.1 c.requires.0.flags c.index.ensures c.requires.0.agrees
