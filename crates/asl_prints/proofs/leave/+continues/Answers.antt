use Rattle.std.proofs.Common.{sym, ◌∙◌}
use Rattle.asl_prints.proofs.Leaving.{continue_none, continue_next, continue_found, left_body, left_itself, not_left}
use Rattle.asl_prints.proofs.leave.+continues.Goals as goal

pub has_continue-returns-in-Closed : goal.has_continue-returns-in-Closed
has_continue-returns-in-Closed t c at =
    left_itself at c.args.term.now c.in-Form.op c.in-Form.args c.in-Form.body c.deref.result.now c.deref-in-Closed.result.now c.deref-in-Closed-2.result.now c.braces_of.result c.is_continue.result c.is_none.result c.is_none-in-Closed.result c.all.result
    c.in-Form.is c.deref.ensures.value c.braces_of.ensures c.in-Closed.is c.deref-in-Closed.ensures.value c.deref-in-Closed-2.ensures.value c.is_continue.ensures c.is_none.ensures c.is_none-in-Closed.ensures c.all.ensures

pub has_continue-returns-in_default-braces_of : goal.has_continue-returns-in_default-braces_of
has_continue-returns-in_default-braces_of t c at =
    left_body at c.args.term.now c.in-Form.op c.in-Form.args c.in-Form.body c.deref.result.now c.deref-in_default-braces_of.result.now c.braces_of.result c.have_continue.result
    c.in-Form.is c.deref.ensures.value c.braces_of.ensures c.in_default-braces_of.not-Closed c.deref-in_default-braces_of.ensures.value c.have_continue.ensures

pub has_continue-returns-in_default : goal.has_continue-returns-in_default
has_continue-returns-in_default t c at = not_left at c.args.term.now c.in_default.not-Form

pub have_continue-loop-node-preserved : goal.have_continue-loop-node-preserved
have_continue-loop-node-preserved t c =
    continue_next c.args.nodes.now c.loop-node.node-index c.node-item.result c.loop-node-test.true c.node-item.is c.loop-node.invariant (c.has_continue.ensures (record { id = c.node-item.result.id; place = c.node-item.result.place }) ∙ c.if-has_continue.false)

pub have_continue-returns-then-has_continue : goal.have_continue-returns-then-has_continue
have_continue-returns-then-has_continue t c =
    sym (continue_found c.args.nodes.now c.loop-node.node-index c.node-item.result c.loop-node-test.true c.node-item.is (c.has_continue.ensures (record { id = c.node-item.result.id; place = c.node-item.result.place }) ∙ c.if-has_continue.true))

pub have_continue-loop-node-init : goal.have_continue-loop-node-init
have_continue-loop-node-init t c = continue_none
