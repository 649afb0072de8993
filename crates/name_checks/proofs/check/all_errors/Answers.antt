use Rattle.std.proofs.Common.{refl, sym, subst}
use Rattle.name_kinds.proofs.Places.{shown_there}
use Rattle.name_checks.specs.Before.{Before}
use Rattle.name_checks.proofs.Walks.{after_next, errors_next, errors_end}
use Rattle.name_checks.proofs.check.all_errors.Goals as goal

pub loop-mention-init : goal.loop-mention-init
loop-mention-init g c = record { sized = c.in_ok-so_far.ensures.sized; before = c.in_ok-so_far.ensures.nothing; told = refl }

pub mention_errors-requires : goal.mention_errors-requires
mention_errors-requires g c =
    (c.requires.0, (shown_there g.whole c.args.facts.now.index.paths c.args.mentions.now c.loop-mention.mention-index c.mention-item.result c.requires.1 c.loop-mention-test.true c.mention-item.is, c.loop-mention.invariant.sized))

pub loop-mention-preserved : goal.loop-mention-preserved
loop-mention-preserved g c =
    let paths = c.args.facts.now.index.paths in
    let before = c.loop-mention.invariant.before in
    let now = c.in_ok-mention_errors.ensures in
    record {
      sized = now.sized;
      before = subst (λ d. Before paths c.mention_errors.new.so_far d) (sym (after_next paths c.args.mentions.now c.loop-mention.mention-index c.mention-item.result c.loop-mention-test.true c.mention-item.is)) (now.noted _ before);
      told = errors_next paths g.whole c.args.mentions.now c.loop-mention.mention-index c.mention-item.result c.loop-mention.out.items c.mention_errors.new.out.items _ c.loop-mention-test.true c.mention-item.is (now.found _ before) c.loop-mention.invariant.told;
    }

pub returns : goal.returns
returns g c = errors_end c.args.facts.now.index.paths g.whole c.args.mentions.now c.loop-mention.mention-index _ c.loop-mention.out.items _ c.loop-mention-test.false c.loop-mention.invariant.told
