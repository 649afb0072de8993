use Rattle.std.proofs.Common.{◌++◌, sym, ap, ◌∙◌, refl, append-nil, arith}
use Rattle.asl_numbers.proofs.Loops.{smaller}
use Rattle.statement_checks.proofs.Terms.{inside_form}
use Rattle.switch_checks.proofs.Terms.{none_repeated, form_repeated}
use Rattle.switch_checks.proofs.Notes.{next_read, all_read}
use Rattle.switch_checks.proofs.repeat.+walk.Goals as goal

pub all_repeats-term_repeats-requires : goal.all_repeats-term_repeats-requires
all_repeats-term_repeats-requires t c = omega (arith, c.decreases, smaller c.args.nodes.now c.args.nodes.now c.loop-node.node-index c.node-item.result c.loop-node-test.true c.node-item.is refl)

pub all_repeats-loop-node-preserved : goal.all_repeats-loop-node-preserved
all_repeats-loop-node-preserved t c =
    next_read c.args.width c.args.nodes.now c.loop-node.node-index c.node-item.result c.args.out.now c.loop-node.out c.term_repeats.new.out c.loop-node-test.true c.node-item.is c.loop-node.invariant c.in_ok-term_repeats.ensures

pub all_repeats-returns : goal.all_repeats-returns
all_repeats-returns t c = all_read c.args.width c.args.nodes.now c.loop-node.node-index c.args.out.now c.loop-node.out c.loop-node-test.false c.loop-node.invariant

pub term_repeats-all_repeats-requires : goal.term_repeats-all_repeats-requires
term_repeats-all_repeats-requires t c = omega (arith, c.decreases, inside_form c.args.term.now c.in-Form.op c.in-Form.args c.in-Form.body c.in-Form.args.items c.deref-in-Form.result.now c.in-Form.is refl c.deref-in-Form.ensures.value)

pub term_repeats-returns-in_ok-all_repeats-in-Form : goal.term_repeats-returns-in_ok-all_repeats-in-Form
term_repeats-returns-in_ok-all_repeats-in-Form t c =
    form_repeated c.args.width c.args.term.now c.in-Form.op c.in-Form.args c.in-Form.body c.deref.result.now c.deref-in-Form.result.now c.args.out.now c.switch_repeats.new.out c.all_repeats.new.out
    c.in-Form.is c.deref.ensures.value c.deref-in-Form.ensures.value c.in_ok-switch_repeats-in-Form.ensures c.in_ok-all_repeats-in-Form.ensures

pub term_repeats-returns-in_default : goal.term_repeats-returns-in_default
term_repeats-returns-in_default t c = sym (append-nil c.args.out.now) ∙ ap (λ ms. c.args.out.now ++ ms) (sym (none_repeated c.args.width c.args.term.now c.in_default.not-Form))
