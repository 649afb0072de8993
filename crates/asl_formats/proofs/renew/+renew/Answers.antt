use Rattle.std.proofs.Common.{[], refl, arith}
use Rattle.asl_prints.proofs.Nodes.{node_smaller, call_smaller, form_smaller}
use Rattle.asl_prints.proofs.Copies.{plans_copied}
use Rattle.asl_formats.proofs.RenewNumbers.{plans_begun, node_renewed, node_behind, renewed_next, renewed_behind, none_begun, none_behind, call_renewed, call_behind, form_renewed, form_behind, other_renewed, other_behind}
use Rattle.asl_formats.proofs.renew.+renew.Goals as goal

pub renewed-returns-clause-numbers : goal.renewed-returns-clause-numbers
renewed-returns-clause-numbers t c =
    node_renewed c.args.next.now c.take_id-id.new.next c.args.node.now (record { id = c.take_id-id.result; place = c.args.node.now.place; term = c.in_ok-term.term }) c.take_id-id.ensures.id c.take_id-id.ensures.next c.in_ok-term.ensures.numbers

pub renewed-returns-clause-next : goal.renewed-returns-clause-next
renewed-returns-clause-next t c = node_behind c.args.next.now c.take_id-id.new.next c.renewed_term.new.next c.args.node.now c.take_id-id.ensures.next c.in_ok-term.ensures.next

-- ---- nodes one after another

pub renewed_all-loop-node-init : goal.renewed_all-loop-node-init
renewed_all-loop-node-init t c = record {
  plans = plans_begun c.args.nodes.now c.new-made.result.items c.new-made.ensures.items;
  numbers = none_begun c.args.next.now c.args.nodes.now c.new-made.result.items c.new-made.ensures.items;
  next = none_behind c.args.next.now c.args.nodes.now;
}

pub renewed_all-renewed-requires : goal.renewed_all-renewed-requires
renewed_all-renewed-requires t c = omega (arith, c.decreases, node_smaller c.args.nodes.now c.loop-node.node-index c.node-item.result c.loop-node-test.true c.node-item.is)

pub renewed_all-loop-node-preserved : goal.renewed_all-loop-node-preserved
renewed_all-loop-node-preserved t c = record {
  plans = plans_copied c.args.nodes.now c.loop-node.made.items c.push.new.self.items c.loop-node.node-index c.node-item.result c.in_ok-renewed.field-0 c.loop-node-test.true c.node-item.is c.loop-node.invariant.plans c.in_ok-renewed.ensures.plan c.in_ok-push.ensures.items;
  numbers = renewed_next c.args.next.now c.loop-node.next [] c.args.nodes.now c.loop-node.made.items c.push.new.self.items c.loop-node.node-index c.node-item.result c.in_ok-renewed.field-0 c.loop-node-test.true c.node-item.is c.loop-node.invariant.numbers c.loop-node.invariant.next
      c.in_ok-renewed.ensures.numbers c.in_ok-push.ensures.items;
  next = renewed_behind c.args.next.now c.loop-node.next c.renewed.new.next c.args.nodes.now c.loop-node.node-index c.node-item.result c.loop-node-test.true c.node-item.is c.loop-node.invariant.next c.in_ok-renewed.ensures.next;
}

-- ---- a term

pub renewed_term-renewed_all-requires : goal.renewed_term-renewed_all-requires
renewed_term-renewed_all-requires t c = omega (arith, c.decreases, call_smaller c.args.term.now c.in-Call.path c.in-Call.args c.deref.result.now c.in-Call.is c.deref.ensures.value)

pub renewed_term-renewed_all-requires-in-Form : goal.renewed_term-renewed_all-requires-in-Form
renewed_term-renewed_all-requires-in-Form t c = omega (arith, c.decreases, form_smaller c.args.term.now c.in-Form.op c.in-Form.args c.in-Form.body c.deref-in-Form.result.now c.in-Form.body.items c.in-Form.is c.deref-in-Form.ensures.value refl)

pub renewed_term-renewed_all-requires-in-Form-2 : goal.renewed_term-renewed_all-requires-in-Form-2
renewed_term-renewed_all-requires-in-Form-2 t c = omega (arith, c.decreases, form_smaller c.args.term.now c.in-Form.op c.in-Form.args c.in-Form.body c.in-Form.args.items c.deref-in-Form-2.result.now c.in-Form.is refl c.deref-in-Form-2.ensures.value)

pub renewed_term-returns-in_ok-args-in-Call-clause-numbers : goal.renewed_term-returns-in_ok-args-in-Call-clause-numbers
renewed_term-returns-in_ok-args-in-Call-clause-numbers t c =
    call_renewed c.args.next.now c.args.term.now c.in-Call.path c.in_ok-path-in-Call.path c.in-Call.args c.in_ok-args-in-Call.args c.deref.result.now c.in-Call.is c.deref.ensures.value c.in_ok-args-in-Call.ensures.numbers

pub renewed_term-returns-in_ok-args-in-Call-clause-next : goal.renewed_term-returns-in_ok-args-in-Call-clause-next
renewed_term-returns-in_ok-args-in-Call-clause-next t c =
    call_behind c.args.next.now c.renewed_all.new.next c.args.term.now c.in-Call.path c.in-Call.args c.deref.result.now c.in-Call.is c.deref.ensures.value c.in_ok-args-in-Call.ensures.next

pub renewed_term-returns-in_ok-body-in-Form-clause-numbers : goal.renewed_term-returns-in_ok-body-in-Form-clause-numbers
renewed_term-returns-in_ok-body-in-Form-clause-numbers t c =
    form_renewed c.args.next.now c.renewed_all-in-Form.new.next c.args.term.now c.in-Form.op c.in-Form.args c.in-Form.body c.in_ok-args-in-Form.args c.in_ok-body-in-Form.body c.deref-in-Form.result.now c.deref-in-Form-2.result.now c.in-Form.is c.deref-in-Form.ensures.value c.deref-in-Form-2.ensures.value
    c.in_ok-args-in-Form.ensures.numbers c.in_ok-args-in-Form.ensures.next c.in_ok-body-in-Form.ensures.numbers

pub renewed_term-returns-in_ok-body-in-Form-clause-next : goal.renewed_term-returns-in_ok-body-in-Form-clause-next
renewed_term-returns-in_ok-body-in-Form-clause-next t c =
    form_behind c.args.next.now c.renewed_all-in-Form.new.next c.renewed_all-in-Form-2.new.next c.args.term.now c.in-Form.op c.in-Form.args c.in-Form.body c.deref-in-Form.result.now c.deref-in-Form-2.result.now c.in-Form.is c.deref-in-Form.ensures.value c.deref-in-Form-2.ensures.value
    c.in_ok-args-in-Form.ensures.next c.in_ok-body-in-Form.ensures.next

pub renewed_term-returns-in_ok-copy-in_default : goal.renewed_term-returns-in_ok-copy-in_default
renewed_term-returns-in_ok-copy-in_default t c = record {
  plan = c.in_ok-copy-in_default.ensures.plan;
  numbers = other_renewed c.args.term.now c.in_default.not-Call c.in_default.not-Form c.args.next.now c.in_ok-copy-in_default.copy c.in_ok-copy-in_default.ensures.numbers;
  next = other_behind c.args.term.now c.in_default.not-Call c.in_default.not-Form c.args.next.now;
}
