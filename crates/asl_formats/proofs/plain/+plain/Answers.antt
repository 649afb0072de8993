use Rattle.std.proofs.Common.{sym, ◌∙◌, arith}
use Rattle.asl_prints.proofs.Nodes.{node_smaller, call_smaller, form_smaller}
use Rattle.asl_formats.proofs.PlainTerms.{form_plain, other_plain, next_plain, other_found, all_found}
use Rattle.asl_formats.proofs.plain.+plain.Goals as goal

pub are_plain-is_plain-requires : goal.are_plain-is_plain-requires
are_plain-is_plain-requires t c = omega (arith, c.decreases, node_smaller c.args.nodes.now c.loop-node.node-index c.node-item.result c.loop-node-test.true c.node-item.is)

pub are_plain-loop-node-preserved : goal.are_plain-loop-node-preserved
are_plain-loop-node-preserved t c =
    next_plain c.args.nodes.now c.loop-node.node-index c.node-item.result c.loop-node-test.true c.node-item.is (sym c.is_plain.ensures ∙ c.if-not-is_plain.false) c.loop-node.invariant

pub are_plain-returns-then-not-is_plain : goal.are_plain-returns-then-not-is_plain
are_plain-returns-then-not-is_plain t c =
    other_found c.args.nodes.now c.loop-node.node-index c.node-item.result c.loop-node-test.true c.node-item.is (sym c.is_plain.ensures ∙ c.if-not-is_plain.true) c.loop-node.invariant

pub are_plain-returns : goal.are_plain-returns
are_plain-returns t c = all_found c.args.nodes.now c.loop-node.node-index c.loop-node-test.false c.loop-node.invariant

pub is_plain-are_plain-requires : goal.is_plain-are_plain-requires
is_plain-are_plain-requires t c = omega (arith, c.decreases, call_smaller c.args.term.now c.in-Call.path c.in-Call.args c.deref.result.now c.in-Call.is c.deref.ensures.value)

pub is_plain-is_plain_form-requires : goal.is_plain-is_plain_form-requires
is_plain-is_plain_form-requires t c =
    omega (arith, c.decreases, form_smaller c.args.term.now c.in-Form.op c.in-Form.args c.in-Form.body c.deref-in-Form.result.now c.deref-in-Form-2.result.now c.in-Form.is c.deref-in-Form.ensures.value c.deref-in-Form-2.ensures.value)

pub is_plain-returns-in-Form : goal.is_plain-returns-in-Form
is_plain-returns-in-Form t c =
    form_plain c.args.term.now c.in-Form.op c.in-Form.args c.in-Form.body c.deref-in-Form.result.now c.deref-in-Form-2.result.now c.is_plain_form.result c.in-Form.is c.deref-in-Form.ensures.value c.deref-in-Form-2.ensures.value c.is_plain_form.ensures

pub is_plain-returns-in_default : goal.is_plain-returns-in_default
is_plain-returns-in_default t c = other_plain c.args.term.now c.is_expression.result c.in_default.not-Call c.in_default.not-Form c.is_expression.ensures
