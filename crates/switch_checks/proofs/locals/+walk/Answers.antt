use Rattle.std.proofs.Common.{◌≡◌, ◌+◌, ◌-◌, ◌++◌, take, drop, sym, ap, ◌∙◌, refl, append-nil, arith}
use Rattle.statement_checks.proofs.Terms.{inside_form}
use Rattle.switch_checks.proofs.Switchless.{none_told}
use Rattle.switch_checks.proofs.Walks.{alone_nodes, form_alone, other_alone, next_read, all_read, slice_smaller, slice_alone}
use Rattle.switch_checks.proofs.locals.+walk.Goals as goal

pub method_errors-term_errors-requires : goal.method_errors-term_errors-requires
method_errors-term_errors-requires t c =
    let one : (c.loop-index.index + 1) - c.loop-index.index ≡ 1 = omega arith in
    (omega (arith, c.decreases, slice_smaller c.args.nodes.now c.loop-index.index ((c.loop-index.index + 1) - c.loop-index.index) one), slice_alone c.args.nodes.now c.loop-index.index ((c.loop-index.index + 1) - c.loop-index.index) one c.loop-index-test.true)

pub method_errors-loop-index-preserved : goal.method_errors-loop-index-preserved
method_errors-loop-index-preserved t c =
    let one : (c.loop-index.index + 1) - c.loop-index.index ≡ 1 = omega arith in
    next_read c.args.nodes.now _ c.loop-index.index c.args.out.now c.loop-index.out c.term_errors.new.out c.loop-index-test.true (ap (λ k. take k (drop c.loop-index.index c.args.nodes.now)) one) c.loop-index.invariant c.in_ok-term_errors.ensures

pub method_errors-returns : goal.method_errors-returns
method_errors-returns t c = all_read c.args.nodes.now c.loop-index.index c.args.out.now c.loop-index.out c.loop-index-test.false c.loop-index.invariant

pub body_errors-method_errors-requires : goal.body_errors-method_errors-requires
body_errors-method_errors-requires t c = omega (arith, c.decreases)

pub body_errors-returns-then-not-has_switch : goal.body_errors-returns-then-not-has_switch
body_errors-returns-then-not-has_switch t c =
    sym (append-nil c.args.out.now) ∙ ap (λ ms. c.args.out.now ++ ms) (sym (none_told c.args.terms.now (sym c.has_switch.ensures ∙ c.if-not-has_switch.true)))

pub form_errors-body_errors-requires : goal.form_errors-body_errors-requires
form_errors-body_errors-requires t c = omega (arith, c.decreases)

pub form_errors-method_errors-requires : goal.form_errors-method_errors-requires
form_errors-method_errors-requires t c = omega (arith, c.decreases)

pub term_errors-form_errors-requires : goal.term_errors-form_errors-requires
term_errors-form_errors-requires t c =
    omega (arith, c.decreases, alone_nodes c.args.alone.now _ c.index-alone-0.result c.requires refl, inside_form _ c.in-Form.op c.in-Form.args c.in-Form.body c.in-Form.args.items c.deref-in-Form.result.now c.in-Form.is refl c.deref-in-Form.ensures.value)

pub term_errors-returns-in_ok-form_errors-in-Form : goal.term_errors-returns-in_ok-form_errors-in-Form
term_errors-returns-in_ok-form_errors-in-Form t c =
    c.in_ok-form_errors-in-Form.ensures
    ∙ ap (λ ms. c.args.out.now ++ ms) (form_alone c.args.alone.now _ c.index-alone-0.result c.in-Form.op c.in-Form.args c.in-Form.body c.deref.result.now c.deref-in-Form.result.now c.requires refl c.in-Form.is c.deref.ensures.value c.deref-in-Form.ensures.value)

pub term_errors-returns-in_default : goal.term_errors-returns-in_default
term_errors-returns-in_default t c =
    sym (append-nil c.args.out.now) ∙ ap (λ ms. c.args.out.now ++ ms) (sym (other_alone c.args.alone.now _ c.index-alone-0.result c.requires refl c.in_default.not-Form))
