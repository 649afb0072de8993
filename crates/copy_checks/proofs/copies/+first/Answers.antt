use Rattle.std.proofs.Common.{refl, sym, ap, ◌∙◌, arith}
use Rattle.copy_checks.specs.Copies.{first_for}
use Rattle.copy_checks.proofs.Terms.{inside_call, inside_form, all_left, smaller}
use Rattle.copy_checks.proofs.Searching.{in_call, for_here, for_in_args, for_in_body, no_for, next_searched, searched_here, none_searched}
use Rattle.copy_checks.proofs.copies.+first.Goals as goal

pub first_for-for_at-requires : goal.first_for-for_at-requires
first_for-for_at-requires t c = omega (arith, c.decreases, smaller c.args.nodes.now c.loop-node.node-index c.node-item.result c.loop-node-test.true c.node-item.is)

pub first_for-loop-node-init : goal.first_for-loop-node-init
first_for-loop-node-init t c = ap first_for (all_left c.args.nodes.now)

pub first_for-loop-node-preserved : goal.first_for-loop-node-preserved
first_for-loop-node-preserved t c = next_searched c.args.nodes.now c.loop-node.node-index c.node-item.result c.loop-node-test.true c.node-item.is (sym c.in_default.ensures) c.loop-node.invariant

pub first_for-returns-in-Some : goal.first_for-returns-in-Some
first_for-returns-in-Some t c = searched_here c.args.nodes.now c.loop-node.node-index c.node-item.result c.in-Some.place c.loop-node-test.true c.node-item.is (sym c.in-Some.ensures) c.loop-node.invariant

pub first_for-returns : goal.first_for-returns
first_for-returns t c = none_searched c.args.nodes.now c.loop-node.node-index c.loop-node-test.false c.loop-node.invariant

pub for_at-first_for-requires : goal.for_at-first_for-requires
for_at-first_for-requires t c = omega (arith, c.decreases, inside_call c.args.node.now.term c.in-Call.path c.in-Call.args c.deref.result.now c.in-Call.is c.deref.ensures.value)

pub for_at-first_for-requires-in-Form : goal.for_at-first_for-requires-in-Form
for_at-first_for-requires-in-Form t c = omega (arith, c.decreases, inside_form c.args.node.now.term c.in-Form.op c.in-Form.args c.in-Form.body c.deref-in-Form.result.now c.in-Form.body.items c.in-Form.is c.deref-in-Form.ensures.value refl)

pub for_at-returns-in-Call : goal.for_at-returns-in-Call
for_at-returns-in-Call t c = c.first_for.ensures ∙ in_call c.args.node.now.place c.args.node.now.term c.in-Call.path c.in-Call.args c.deref.result.now c.in-Call.is c.deref.ensures.value

pub for_at-returns-then-is_for : goal.for_at-returns-then-is_for
for_at-returns-then-is_for t c = for_here c.args.node.now.place c.args.node.now.term c.in-Form.op c.in-Form.args c.in-Form.body c.in-Form.is (sym c.is_for.ensures ∙ c.if-is_for.true)

pub for_at-returns-in_default : goal.for_at-returns-in_default
for_at-returns-in_default t c = sym (no_for c.args.node.now.place c.args.node.now.term c.in_default.not-Call c.in_default.not-Form)

pub for_at-first_for-requires-in-None : goal.for_at-first_for-requires-in-None
for_at-first_for-requires-in-None t c = omega (arith, c.decreases, inside_form c.args.node.now.term c.in-Form.op c.in-Form.args c.in-Form.body c.in-Form.args.items c.deref-in-None.result.now c.in-Form.is refl c.deref-in-None.ensures.value)

pub for_at-returns-in-Some : goal.for_at-returns-in-Some
for_at-returns-in-Some t c =
    for_in_args c.args.node.now.place c.in-Some.place c.args.node.now.term c.in-Form.op c.in-Form.args c.in-Form.body c.deref-in-Form.result.now c.in-Form.is c.deref-in-Form.ensures.value (sym c.is_for.ensures ∙ c.if-is_for.false) c.in-Some.ensures

pub for_at-returns-in-None : goal.for_at-returns-in-None
for_at-returns-in-None t c =
    c.first_for-in-None.ensures
    ∙ for_in_body c.args.node.now.place c.args.node.now.term c.in-Form.op c.in-Form.args c.in-Form.body c.deref-in-Form.result.now c.deref-in-None.result.now c.in-Form.is c.deref-in-Form.ensures.value c.deref-in-None.ensures.value
    (sym c.is_for.ensures ∙ c.if-is_for.false) c.in-None.ensures
