use Rattle.asl_formats.proofs.PlanFors.{while_made}
use Rattle.std.proofs.Common.{refl}
use Rattle.asl_tree.specs.declared.term.Control.TheVariants as Control
use Rattle.asl_tree.specs.declared.term.Op.{Op}
use Rattle.asl_tree.specs.declared.term.Term as D
use Rattle.asl_formats.proofs.StepNumbers.{while_numbers}
use Rattle.asl_formats.proofs.for_loop.turns.Goals as goal

pub returns-clause-plan : goal.returns-clause-plan
returns-clause-plan c =
    while_made c.args.id c.args.place c.args.test.now c.in_ok-copied.field-0 c.in_ok-args.args.items c.push.new.self c.args.body c.in_ok-copied.ensures.plan c.in_ok-args.ensures.items c.in_ok-push.ensures.items

pub returns-clause-numbers : goal.returns-clause-numbers
returns-clause-numbers c =
    while_numbers c.args.id (record { id = c.args.id; place = c.args.place; term = D.Form (Op.Control Control.While) c.push.new.self c.args.body }) c.args.test.now c.in_ok-copied.field-0 c.in_ok-args.args.items c.push.new.self c.args.body refl refl c.in_ok-copied.ensures.numbers c.in_ok-args.ensures.items
    c.in_ok-push.ensures.items
