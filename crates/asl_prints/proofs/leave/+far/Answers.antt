use Rattle.std.proofs.Common.{sym, ◌∙◌}
use Rattle.asl_prints.proofs.Leaving.{far_none, far_next, far_found, far_open, far_scope, far_closed, not_far}
use Rattle.asl_prints.proofs.leave.+far.Goals as goal

pub has_far_continue-returns-in-Open : goal.has_far_continue-returns-in-Open
has_far_continue-returns-in-Open t c at =
    far_open at c.args.term.now c.in-Form.op c.in-Form.args c.in-Form.body c.deref.result.now c.deref-in-Open.result.now c.braces_of.result c.have_far_continue.result
    c.in-Form.is c.deref.ensures.value c.braces_of.ensures c.in-Open.is c.deref-in-Open.ensures.value c.have_far_continue.ensures

pub has_far_continue-returns-in-Scope : goal.has_far_continue-returns-in-Scope
has_far_continue-returns-in-Scope t c at =
    far_scope at c.args.term.now c.in-Form.op c.in-Form.args c.in-Form.body c.deref.result.now c.deref-in-Scope.result.now c.braces_of.result c.have_continue.result
    c.in-Form.is c.deref.ensures.value c.braces_of.ensures c.in-Scope.is c.deref-in-Scope.ensures.value c.have_continue.ensures

pub has_far_continue-returns-in-Closed : goal.has_far_continue-returns-in-Closed
has_far_continue-returns-in-Closed t c at =
    far_closed at c.args.term.now c.in-Form.op c.in-Form.args c.in-Form.body c.deref.result.now c.braces_of.result c.in-Form.is c.deref.ensures.value c.braces_of.ensures c.in-Closed.is

pub has_far_continue-returns-in_default : goal.has_far_continue-returns-in_default
has_far_continue-returns-in_default t c at = not_far at c.args.term.now c.in_default.not-Form

pub have_far_continue-loop-node-preserved : goal.have_far_continue-loop-node-preserved
have_far_continue-loop-node-preserved t c =
    far_next c.args.nodes.now c.loop-node.node-index c.node-item.result c.loop-node-test.true c.node-item.is c.loop-node.invariant (c.has_far_continue.ensures (record { id = c.node-item.result.id; place = c.node-item.result.place }) ∙ c.if-has_far_continue.false)

pub have_far_continue-returns-then-has_far_continue : goal.have_far_continue-returns-then-has_far_continue
have_far_continue-returns-then-has_far_continue t c =
    sym (far_found c.args.nodes.now c.loop-node.node-index c.node-item.result c.loop-node-test.true c.node-item.is (c.has_far_continue.ensures (record { id = c.node-item.result.id; place = c.node-item.result.place }) ∙ c.if-has_far_continue.true))

pub have_far_continue-loop-node-init : goal.have_far_continue-loop-node-init
have_far_continue-loop-node-init t c = far_none
