use Rattle.std.proofs.Common.{◌≡◌, ◌+◌, ◌-◌, ◌++◌, take, drop, sym, ap, ◌∙◌, refl, arith}
use Rattle.field_checks.proofs.Terms.{inside_form}
use Rattle.region_checks.proofs.Joins.{right_nil}
use Rattle.region_checks.proofs.Walks.{alone_nodes, form_alone, other_alone, next_measured, all_measured, slice_smaller, slice_alone}
use Rattle.region_checks.proofs.measure.+walk.Goals as goal

pub all_measures-term_measures-requires : goal.all_measures-term_measures-requires
all_measures-term_measures-requires t c =
    let one : (c.loop-index.index + 1) - c.loop-index.index ≡ 1 = omega arith in
    (omega (arith, c.decreases, slice_smaller c.args.width c.args.nodes.now c.loop-index.index ((c.loop-index.index + 1) - c.loop-index.index) one), slice_alone c.args.width c.args.nodes.now c.loop-index.index ((c.loop-index.index + 1) - c.loop-index.index) one c.loop-index-test.true)

pub all_measures-loop-index-preserved : goal.all_measures-loop-index-preserved
all_measures-loop-index-preserved t c =
    let one : (c.loop-index.index + 1) - c.loop-index.index ≡ 1 = omega arith in
    next_measured c.args.width c.args.nodes.now _ c.loop-index.index c.args.out.now.items c.loop-index.out.items c.term_measures.new.out.items c.loop-index-test.true (ap (λ k. take k (drop c.loop-index.index c.args.nodes.now)) one) c.loop-index.invariant c.in_ok-term_measures.ensures

pub all_measures-returns : goal.all_measures-returns
all_measures-returns t c = all_measured c.args.width c.args.nodes.now c.loop-index.index c.args.out.now.items c.loop-index.out.items c.loop-index-test.false c.loop-index.invariant

pub form_measures-all_measures-requires : goal.form_measures-all_measures-requires
form_measures-all_measures-requires t c = omega (arith, c.decreases)

pub term_measures-form_measures-requires : goal.term_measures-form_measures-requires
term_measures-form_measures-requires t c =
    omega (arith, c.decreases, alone_nodes c.args.width c.args.alone.now _ c.index-alone-0.result c.requires refl, inside_form _ c.in-Form.op c.in-Form.args c.in-Form.body c.deref-in-Form.result.now c.in-Form.is c.deref-in-Form.ensures.value)

pub term_measures-returns-in_ok-form_measures-in-Form : goal.term_measures-returns-in_ok-form_measures-in-Form
term_measures-returns-in_ok-form_measures-in-Form t c =
    c.in_ok-form_measures-in-Form.ensures
    ∙ ap (λ ms. c.args.out.now.items ++ ms) (form_alone c.args.width c.args.alone.now _ c.index-alone-0.result c.in-Form.op c.in-Form.args c.in-Form.body c.deref.result.now c.deref-in-Form.result.now c.requires refl c.in-Form.is c.deref.ensures.value c.deref-in-Form.ensures.value)

pub term_measures-returns-in_default : goal.term_measures-returns-in_default
term_measures-returns-in_default t c =
    sym (right_nil c.args.out.now.items) ∙ ap (λ ms. c.args.out.now.items ++ ms) (sym (other_alone c.args.width c.args.alone.now _ c.index-alone-0.result c.requires refl c.in_default.not-Form))
