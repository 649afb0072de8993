use Rattle.std.proofs.Common.{[], refl, arith, ◌∷◌, sym, ap, ◌∙◌}
use Rattle.asl_prints.proofs.Nodes.{node_smaller, call_smaller, form_smaller}
use Rattle.asl_prints.proofs.Copies.{next_copied, plans_copied}
use Rattle.asl_prints.proofs.NodeNumbers.{numbers_copied, one_number}
use Rattle.asl_prints.proofs.copy.+copy.Goals as goal

pub copied_all-copied-requires : goal.copied_all-copied-requires
copied_all-copied-requires t c = omega (arith, c.decreases, node_smaller c.args.nodes.now c.loop-node.node-index c.node-item.result c.loop-node-test.true c.node-item.is)

pub copied_all-loop-node-preserved : goal.copied_all-loop-node-preserved
copied_all-loop-node-preserved t c = record {
  trees = next_copied c.args.nodes.now c.loop-node.copies.items c.push.new.self.items c.loop-node.node-index c.node-item.result c.in_ok-copied.field-0 c.loop-node-test.true c.node-item.is c.loop-node.invariant.trees c.in_ok-copied.ensures.tree c.in_ok-push.ensures.items;
  plans = plans_copied c.args.nodes.now c.loop-node.copies.items c.push.new.self.items c.loop-node.node-index c.node-item.result c.in_ok-copied.field-0 c.loop-node-test.true c.node-item.is c.loop-node.invariant.plans c.in_ok-copied.ensures.plan c.in_ok-push.ensures.items;
  numbers = numbers_copied [] c.args.nodes.now c.loop-node.copies.items c.push.new.self.items c.loop-node.node-index c.node-item.result c.in_ok-copied.field-0 c.loop-node-test.true c.node-item.is c.loop-node.invariant.numbers c.in_ok-copied.ensures.numbers c.in_ok-push.ensures.items;
}

pub copied_term-copied_all-requires : goal.copied_term-copied_all-requires
copied_term-copied_all-requires t c = omega (arith, c.decreases, call_smaller c.args.term.now c.in-Call.path c.in-Call.args c.deref.result.now c.in-Call.is c.deref.ensures.value)

pub copied_term-copied_all-requires-in-Form : goal.copied_term-copied_all-requires-in-Form
copied_term-copied_all-requires-in-Form t c = omega (arith, c.decreases, form_smaller c.args.term.now c.in-Form.op c.in-Form.args c.in-Form.body c.deref-in-Form.result.now c.in-Form.body.items c.in-Form.is c.deref-in-Form.ensures.value refl)

pub copied_term-copied_all-requires-in-Form-2 : goal.copied_term-copied_all-requires-in-Form-2
copied_term-copied_all-requires-in-Form-2 t c = omega (arith, c.decreases, form_smaller c.args.term.now c.in-Form.op c.in-Form.args c.in-Form.body c.in-Form.args.items c.deref-in-Form-2.result.now c.in-Form.is refl c.deref-in-Form-2.ensures.value)

pub copied-returns-clause-numbers : goal.copied-returns-clause-numbers
copied-returns-clause-numbers t c =
    one_number (record { id = c.args.node.now.id; place = c.args.node.now.place; term = c.in_ok-term.term }) ∙ ap (λ ns. c.args.node.now.id ∷ ns) c.in_ok-term.ensures.numbers ∙ sym (one_number c.args.node.now)
