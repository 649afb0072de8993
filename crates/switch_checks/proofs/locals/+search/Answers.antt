use Rattle.std.proofs.Common.{sym, ◌∙◌, refl, arith}
use Rattle.asl_numbers.proofs.Loops.{smaller}
use Rattle.statement_checks.proofs.Terms.{inside_form}
use Rattle.switch_checks.proofs.Terms.{switch_here, method_here, inside_here, no_switch}
use Rattle.switch_checks.proofs.Walks.{next_searched, searched_here, none_searched}
use Rattle.switch_checks.proofs.locals.+search.Goals as goal

pub first_switch-switch_in-requires : goal.first_switch-switch_in-requires
first_switch-switch_in-requires t c = omega (arith, c.decreases, smaller c.args.nodes.now c.args.nodes.now c.loop-node.node-index c.node-item.result c.loop-node-test.true c.node-item.is refl)

pub first_switch-loop-node-preserved : goal.first_switch-loop-node-preserved
first_switch-loop-node-preserved t c = next_searched c.args.nodes.now c.loop-node.node-index c.node-item.result c.loop-node-test.true c.node-item.is (sym c.in_default.ensures) c.loop-node.invariant

pub first_switch-returns-in-Some : goal.first_switch-returns-in-Some
first_switch-returns-in-Some t c = searched_here c.args.nodes.now c.loop-node.node-index c.node-item.result c.in-Some.place c.loop-node-test.true c.node-item.is (sym c.in-Some.ensures) c.loop-node.invariant

pub first_switch-returns : goal.first_switch-returns
first_switch-returns t c = none_searched c.args.nodes.now c.loop-node.node-index c.loop-node-test.false c.loop-node.invariant

pub switch_in-first_switch-requires : goal.switch_in-first_switch-requires
switch_in-first_switch-requires t c = omega (arith, c.decreases, inside_form c.args.node.now.term c.in-Form.op c.in-Form.args c.in-Form.body c.in-Form.args.items c.deref.result.now c.in-Form.is refl c.deref.ensures.value)

pub switch_in-returns-then-is_switch : goal.switch_in-returns-then-is_switch
switch_in-returns-then-is_switch t c = switch_here c.args.node.now.place c.args.node.now.term c.in-Form.op c.in-Form.args c.in-Form.body c.in-Form.is (sym c.is_switch.ensures ∙ c.if-is_switch.true)

pub switch_in-returns-then-is_method : goal.switch_in-returns-then-is_method
switch_in-returns-then-is_method t c =
    method_here c.args.node.now.place c.args.node.now.term c.in-Form.op c.in-Form.args c.in-Form.body c.in-Form.is (sym c.is_switch.ensures ∙ c.if-is_switch.false) (sym c.is_method.ensures ∙ c.if-is_method.true)

pub switch_in-returns-else-is_method : goal.switch_in-returns-else-is_method
switch_in-returns-else-is_method t c =
    c.first_switch.ensures
    ∙ inside_here c.args.node.now.place c.args.node.now.term c.in-Form.op c.in-Form.args c.in-Form.body c.deref.result.now c.in-Form.is c.deref.ensures.value (sym c.is_switch.ensures ∙ c.if-is_switch.false) (sym c.is_method.ensures ∙ c.if-is_method.false)

pub switch_in-returns-in_default : goal.switch_in-returns-in_default
switch_in-returns-in_default t c = sym (no_switch c.args.node.now.place c.args.node.now.term c.in_default.not-Form)
