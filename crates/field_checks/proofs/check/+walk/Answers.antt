use Rattle.std.proofs.Common.{◌++◌, sym, ap, ◌∙◌, refl, append-nil, arith}
use Rattle.asl_numbers.proofs.Loops.{smaller}
use Rattle.field_checks.proofs.Terms.{inside_form, form_told, nothing_wrong}
use Rattle.field_checks.proofs.Walk.{next_checked, all_checked}
use Rattle.field_checks.proofs.check.+walk.Goals as goal

pub all_errors-term_errors-requires : goal.all_errors-term_errors-requires
all_errors-term_errors-requires t c = omega (arith, c.decreases, smaller c.args.nodes.now c.args.nodes.now c.loop-node.node-index c.node-item.result c.loop-node-test.true c.node-item.is refl)

pub all_errors-loop-node-preserved : goal.all_errors-loop-node-preserved
all_errors-loop-node-preserved t c =
    next_checked c.args.nodes.now c.loop-node.node-index c.node-item.result c.args.out.now c.loop-node.out c.term_errors.new.out c.loop-node-test.true c.node-item.is c.loop-node.invariant c.in_ok-term_errors.ensures

pub all_errors-returns : goal.all_errors-returns
all_errors-returns t c = all_checked c.args.nodes.now c.loop-node.node-index c.args.out.now c.loop-node.out c.loop-node-test.false c.loop-node.invariant

pub term_errors-all_errors-requires : goal.term_errors-all_errors-requires
term_errors-all_errors-requires t c = omega (arith, c.decreases, inside_form c.args.term.now c.in-Form.op c.in-Form.args c.in-Form.body c.deref-in-Form-2.result.now c.in-Form.is c.deref-in-Form-2.ensures.value)

pub term_errors-returns-in_ok-all_errors-in-Form : goal.term_errors-returns-in_ok-all_errors-in-Form
term_errors-returns-in_ok-all_errors-in-Form t c =
    form_told c.args.term.now c.in-Form.op c.in-Form.args c.in-Form.body c.deref.result.now c.deref-in-Form.result.now c.deref-in-Form-2.result.now c.args.out.now c.field_errors.new.out c.all_errors.new.out
    c.in-Form.is c.deref.ensures.value c.deref-in-Form.ensures.value c.deref-in-Form-2.ensures.value c.in_ok-field_errors-in-Form.ensures c.in_ok-all_errors-in-Form.ensures

pub term_errors-returns-in_default : goal.term_errors-returns-in_default
term_errors-returns-in_default t c =
    sym (append-nil c.args.out.now) ∙ ap (λ ms. c.args.out.now ++ ms) (sym (nothing_wrong c.args.term.now c.in_default.not-Form))
