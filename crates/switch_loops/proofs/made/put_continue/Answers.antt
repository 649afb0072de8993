use Rattle.switch_loops.proofs.PutTurns.{continue_put, continue_placed, leave_put, leave_placed}
use Rattle.switch_loops.proofs.made.put_continue.Goals as goal

pub returns-then-inside-clause-trees : goal.returns-then-inside-clause-trees
returns-then-inside-clause-trees c =
    leave_put c.args.flag c.args.inside c.args.made.now.items c.push.new.self.items c.push-then-inside.new.self.items c.leaving.result c.in_ok-set.field-0 c.if-inside.true c.in_ok-push.ensures.items c.in_ok-push-2.ensures.items c.leaving.ensures.tree c.in_ok-set.ensures.tree

pub returns-then-inside-clause-places : goal.returns-then-inside-clause-places
returns-then-inside-clause-places c =
    leave_placed c.args.inside c.args.origin.place c.args.made.now.items c.push.new.self.items c.push-then-inside.new.self.items c.leaving.result c.in_ok-set.field-0 c.if-inside.true c.in_ok-push.ensures.items c.in_ok-push-2.ensures.items c.leaving.ensures.places c.in_ok-set.ensures.places

pub returns-clause-trees : goal.returns-clause-trees
returns-clause-trees c = continue_put c.args.flag c.args.inside c.args.made.now.items c.push-2.new.self.items c.leaving-2.result c.if-inside.false c.in_ok-push-3.ensures.items c.leaving-2.ensures.tree

pub returns-clause-places : goal.returns-clause-places
returns-clause-places c = continue_placed c.args.inside c.args.origin.place c.args.made.now.items c.push-2.new.self.items c.leaving-2.result c.if-inside.false c.in_ok-push-3.ensures.items c.leaving-2.ensures.places
