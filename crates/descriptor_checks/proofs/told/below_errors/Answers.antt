use Rattle.std.proofs.Common.{map, ap, ◌∙◌}
use Rattle.name_checks.specs.Messages.{message_of}
use Rattle.name_kinds.proofs.Places.{shown_there}
use Rattle.descriptor_checks.specs.Told.{all_below}
use Rattle.descriptor_checks.proofs.Following.{taken_all}
use Rattle.descriptor_checks.proofs.Telling.{next_below}
use Rattle.descriptor_checks.proofs.told.below_errors.Goals as goal

pub tell_below-requires : goal.tell_below-requires
tell_below-requires g c =
    (c.requires.0, shown_there g.whole c.args.index.now.paths c.args.mentions.now c.loop-mention.mention-index c.mention-item.result c.requires.1 c.loop-mention-test.true c.mention-item.is)

pub loop-mention-preserved : goal.loop-mention-preserved
loop-mention-preserved g c look tabled =
    next_below c.args.index.now.paths look c.loop-mention.out.items c.tell_below.new.out.items c.args.mentions.now c.loop-mention.mention-index c.mention-item.result c.loop-mention-test.true c.mention-item.is (c.in_ok-tell_below.ensures look tabled) (c.loop-mention.invariant look tabled)

pub returns : goal.returns
returns g c look tabled = c.loop-mention.invariant look tabled ∙ ap (λ ms. map message_of (all_below look ms)) (taken_all c.args.index.now.paths c.args.mentions.now c.loop-mention.mention-index c.loop-mention-test.false)
