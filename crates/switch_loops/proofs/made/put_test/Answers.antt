use Rattle.std.proofs.Common.{arith, ◌∙◌}
use Rattle.asl_tree.specs.declared.term.Op.{Op}
use Rattle.asl_tree.specs.declared.term.Control.TheVariants as C
use Rattle.acpi_names.specs.Walked.{node_tree}
use Rattle.std.proofs.lemmas.Bool.Decides.{nat_tests}
use Rattle.switch_loops.proofs.PutTurns.{one_tree, first_test, next_test, test_placed}
use Rattle.switch_loops.proofs.made.put_test.Goals as goal

pub returns-then-is_empty-clause-trees : goal.returns-then-is_empty-clause-trees
returns-then-is_empty-clause-trees c = λ branches.
    let none = c.is_empty.ensures in let e = c.if-is_empty.true in
    first_test c.args.tests.now.items c.push.new.self.items c.control.result (node_tree c.args.test) _ branches (grind (arith, nat_tests, none, e)) c.in_ok-push.ensures.items
    (c.control.ensures.tree ∙ one_tree (record { id = c.args.origin.id; place = c.args.origin.place }) (Op.Control C.If) c.in_ok-args.args.items c.args.body.items c.args.test c.in_ok-args.ensures)

pub returns-then-is_empty-clause-places : goal.returns-then-is_empty-clause-places
returns-then-is_empty-clause-places c = test_placed c.args.tests.now.items c.push.new.self.items c.control.result _ c.in_ok-push.ensures.items c.control.ensures.places

pub returns-clause-trees : goal.returns-clause-trees
returns-clause-trees c = λ branches.
    let some = c.is_empty.ensures in let e = c.if-is_empty.false in
    next_test c.args.tests.now.items c.push-2.new.self.items c.control-2.result (node_tree c.args.test) _ branches (λ n. grind (arith, nat_tests, some, e, n)) c.in_ok-push-2.ensures.items
    (c.control-2.ensures.tree ∙ one_tree (record { id = c.args.origin.id; place = c.args.origin.place }) (Op.Control C.ElseIf) c.in_ok-args.args.items c.args.body.items c.args.test c.in_ok-args.ensures)

pub returns-clause-places : goal.returns-clause-places
returns-clause-places c = test_placed c.args.tests.now.items c.push-2.new.self.items c.control-2.result _ c.in_ok-push-2.ensures.items c.control-2.ensures.places
