use Rattle.std.proofs.Common.{refl, ◌∙◌}
use Rattle.switch_loops.proofs.PutTurns.{turn_tree, turn_placed}
use Rattle.switch_loops.proofs.made.turn.Goals as goal

pub returns-clause-tree : goal.returns-clause-tree
returns-clause-tree c g =
    c.control.ensures.tree
    ∙ turn_tree (record { id = c.args.origin.id; place = c.args.origin.place }) c.in_ok-test.test.items c.args.chain.items c.insert.new.self.items c.push.new.self.items c.word.result c.in_ok-first.first c.leaving.result _ c.args.index _
    c.in_ok-test.ensures c.in_ok-insert.ensures.items c.in_ok-push.ensures.items c.word.ensures.tree c.leaving.ensures.tree refl (c.in_ok-first.ensures.tree g)

pub returns-clause-places : goal.returns-clause-places
returns-clause-places c =
    c.control.ensures.places
    ∙ turn_placed c.args.origin.place c.args.chain.items c.insert.new.self.items c.push.new.self.items c.in_ok-first.first c.leaving.result _ c.in_ok-insert.ensures.items c.in_ok-push.ensures.items c.in_ok-first.ensures.places c.leaving.ensures.places refl
