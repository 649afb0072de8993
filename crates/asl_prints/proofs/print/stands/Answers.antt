use Rattle.asl_prints.specs.Nodes.{node_tree}
use Rattle.asl_prints.proofs.Writes.{print_made}
use Rattle.asl_prints.proofs.PlanWrites as L
use Rattle.asl_prints.proofs.PrintNumbers.{print_form_numbers, print_form_next}
use Rattle.asl_prints.proofs.print.stands.Goals as goal

pub returns-in_ok-made-in-Form-clause-tree : goal.returns-in_ok-made-in-Form-clause-tree
returns-in_ok-made-in-Form-clause-tree c =
    print_made c.args.node.now c.in-Form.op c.in-Form.args c.in-Form.body (node_tree c.in_ok-made-in-Form.made.node) c.deref.result.now c.in-Form.is c.deref.ensures.value c.requires c.in_ok-made-in-Form.ensures.tree

pub returns-in_ok-made-in-Form-clause-plan : goal.returns-in_ok-made-in-Form-clause-plan
returns-in_ok-made-in-Form-clause-plan c =
    L.print_made c.args.node.now c.in-Form.op c.in-Form.args c.in-Form.body c.in_ok-made-in-Form.made.node c.deref.result.now c.in-Form.is c.deref.ensures.value c.requires c.in_ok-made-in-Form.ensures.plan

pub returns-in_ok-made-in-Form-clause-numbers : goal.returns-in_ok-made-in-Form-clause-numbers
returns-in_ok-made-in-Form-clause-numbers c =
    print_form_numbers c.args.id c.args.node.now c.in-Form.op c.in-Form.args c.in-Form.body c.in_ok-made-in-Form.made.node c.deref.result.now c.in-Form.is c.deref.ensures.value c.requires c.in_ok-made-in-Form.ensures.numbers

pub returns-in_ok-made-in-Form-clause-next : goal.returns-in_ok-made-in-Form-clause-next
returns-in_ok-made-in-Form-clause-next c =
    print_form_next c.args.id c.args.node.now c.in-Form.op c.in-Form.args c.in-Form.body c.in_ok-made-in-Form.made.next c.deref.result.now c.in-Form.is c.deref.ensures.value c.requires c.in_ok-made-in-Form.ensures.next
