use Rattle.name_checks.proofs.Walks.{types_next}
use Rattle.name_checks.proofs.check.all_types.Goals as goal

pub loop-mention-preserved : goal.loop-mention-preserved
loop-mention-preserved g c = types_next c.args.facts.now.index.paths g.whole c.args.mentions.now c.loop-mention.mention-index c.mention-item.result c.loop-mention.out.items c.mention_types.new.out.items _ c.loop-mention-test.true c.mention-item.is c.in_ok-mention_types.ensures c.loop-mention.invariant
