use Rattle.std.proofs.Common.{ap, ◌∙◌, ◌∷◌}
use Rattle.switch_loops.proofs.PutTurns.{pair_trees, pair_places, single_trees, single_places, when_is, plain_put, plain_placed, outer_put, outer_placed, inner_put, inner_placed}
use Rattle.switch_loops.proofs.made.put_turn.Goals as goal

pub returns-then-not-crossed-clause-trees : goal.returns-then-not-crossed-clause-trees
returns-then-not-crossed-clause-trees c = plain_put c.args.flag c.args.crossed c.args.inside c.args.made.now.items c.push.new.self.items c.args.turn c.if-not-crossed.true c.in_ok-push.ensures.items

pub returns-then-not-crossed-clause-places : goal.returns-then-not-crossed-clause-places
returns-then-not-crossed-clause-places c = plain_placed c.args.crossed c.args.inside c.args.origin.place c.args.made.now.items c.push.new.self.items c.args.turn c.if-not-crossed.true c.in_ok-push.ensures.items

pub returns-then-not-inside-clause-trees : goal.returns-then-not-inside-clause-trees
returns-then-not-inside-clause-trees c =
    outer_put c.args.flag c.args.crossed c.args.inside c.args.made.now.items c.push-then-not-inside-3.new.self.items c.push-then-not-inside-4.new.self.items c.push-then-not-inside-5.new.self.items c.in_ok-when.field-0 c.args.turn c.in_ok-set-2.field-0
    c.if-not-crossed.false c.if-not-inside.true c.in_ok-push-4.ensures.items c.in_ok-push-5.ensures.items c.in_ok-push-6.ensures.items
    (when_is _ _ _ _ _ c.in_ok-when.ensures.tree c.local.ensures.tree (pair_trees c.new-body.result.items c.push-then-not-inside.new.self.items c.push-then-not-inside-2.new.self.items c.in_ok-set.field-0 c.leaving.result _ _ c.new-body.ensures.items c.in_ok-push-2.ensures.items c.in_ok-push-3.ensures.items c.in_ok-set.ensures.tree c.leaving.ensures.tree))
    c.in_ok-set-2.ensures.tree

pub returns-then-not-inside-clause-places : goal.returns-then-not-inside-clause-places
returns-then-not-inside-clause-places c =
    outer_placed c.args.crossed c.args.inside c.args.origin.place c.args.made.now.items c.push-then-not-inside-3.new.self.items c.push-then-not-inside-4.new.self.items c.push-then-not-inside-5.new.self.items c.in_ok-when.field-0 c.args.turn c.in_ok-set-2.field-0
    c.if-not-crossed.false c.if-not-inside.true c.in_ok-push-4.ensures.items c.in_ok-push-5.ensures.items c.in_ok-push-6.ensures.items
    (c.in_ok-when.ensures.places ∙ ap (λ ps. c.args.origin.place ∷ ps) (pair_places c.new-body.result.items c.push-then-not-inside.new.self.items c.push-then-not-inside-2.new.self.items c.in_ok-set.field-0 c.leaving.result _ _ c.new-body.ensures.items c.in_ok-push-2.ensures.items c.in_ok-push-3.ensures.items c.in_ok-set.ensures.places c.leaving.ensures.places))
    c.in_ok-set-2.ensures.places

pub returns-clause-trees : goal.returns-clause-trees
returns-clause-trees c =
    inner_put c.args.flag c.args.crossed c.args.inside c.args.made.now.items c.push-3.new.self.items c.push-4.new.self.items c.in_ok-when-2.field-0 c.args.turn c.if-not-crossed.false c.if-not-inside.false c.in_ok-push-8.ensures.items c.in_ok-push-9.ensures.items
    (when_is _ _ _ _ _ c.in_ok-when-2.ensures.tree c.local-2.ensures.tree (single_trees c.new-body.result.items c.push-2.new.self.items c.leaving-2.result _ c.new-body.ensures.items c.in_ok-push-7.ensures.items c.leaving-2.ensures.tree))

pub returns-clause-places : goal.returns-clause-places
returns-clause-places c =
    inner_placed c.args.crossed c.args.inside c.args.origin.place c.args.made.now.items c.push-3.new.self.items c.push-4.new.self.items c.in_ok-when-2.field-0 c.args.turn c.if-not-crossed.false c.if-not-inside.false c.in_ok-push-8.ensures.items c.in_ok-push-9.ensures.items
    (c.in_ok-when-2.ensures.places ∙ ap (λ ps. c.args.origin.place ∷ ps) (single_places c.new-body.result.items c.push-2.new.self.items c.leaving-2.result _ c.new-body.ensures.items c.in_ok-push-7.ensures.items c.leaving-2.ensures.places))
