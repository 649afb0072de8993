use Rattle.std.proofs.Common.{◌≡◌, ◌+◌, ◌^◌, ◌<◌, ◌≤◌, suc, false, length, get_or, take, sym, ap, ◌∙◌, refl, arith}
use Rattle.term_plans.specs.Plans.{plan_of, plans_of}
use Rattle.asl_tree.specs.declared.term.Node.{Node}
use Rattle.asl_numbers.specs.Numbers.{inside, nodes}
use Rattle.asl_numbers.proofs.Loops.{smaller}
use Rattle.type_checks.specs.Kinds.{any_data, given, leaf_kinds, kinds_of, kinds_all}
use Rattle.type_checks.specs.Names.{listed}
use Rattle.type_checks.specs.Types.{fits}
use Rattle.type_checks.proofs.Terms.{form_is, inside_form, count_before, count_through, where_err}
use Rattle.type_checks.proofs.Fitting.{leaf_is, kinds_there, kinds_past}
use Rattle.type_checks.proofs.check.+fitting.Goals as goal

pub fits-form_fits-requires : goal.fits-form_fits-requires
fits-form_fits-requires t c = omega (arith, c.decreases, inside_form c.args.term.now c.in-Form.op c.in-Form.args c.in-Form.body c.deref.result.now c.in-Form.body.items c.in-Form.is c.deref.ensures.value refl)

pub fits-returns-in_ok-form_fits-in-Form-clause-fits : goal.fits-returns-in_ok-form_fits-in-Form-clause-fits
fits-returns-in_ok-form_fits-in-Form-clause-fits t c =
    let names = listed c.args.names.now in
    c.in_ok-form_fits-in-Form.ensures.fits
    ∙ ap (λ n. fits c.args.wants (given c.in-Form.op (kinds_all names n (plans_of c.deref.result.now)))) c.in_ok-after-in-Form.ensures.next
    ∙ ap (λ p. fits c.args.wants (kinds_of names c.args.in_place c.args.node p)) (sym (form_is c.args.term.now c.in-Form.op c.in-Form.args c.in-Form.body c.deref.result.now c.in-Form.body.items c.in-Form.is c.deref.ensures.value refl))

pub fits-returns-in_default-clause-fits : goal.fits-returns-in_default-clause-fits
fits-returns-in_default-clause-fits t c =
    c.takes_one.ensures
    ∙ ap (fits c.args.wants) (c.leaf_kinds-kinds.ensures ∙ ap (λ o. leaf_kinds c.args.in_place o (plan_of c.args.term.now)) c.named.ensures
    ∙ leaf_is (listed c.args.names.now) c.args.in_place c.args.node c.args.term.now c.in_default.not-Form)

pub argument_fits-returns-then-place-args-clause-fits : goal.argument_fits-returns-then-place-args-clause-fits
argument_fits-returns-then-place-args-clause-fits t c =
    c.takes_one.ensures ∙ ap (fits c.args.wants) (c.any_data.ensures ∙ sym (kinds_past (listed c.args.names.now) any_data c.args.first c.args.args.now c.args.place (omega arith)))

pub argument_fits-fits-requires : goal.argument_fits-fits-requires
argument_fits-fits-requires t c =
    let lt : c.args.place < length c.args.args.now = omega arith in
    let here = c.index-args-place.result in
    let same : inside (plan_of (get_or c.args.args.now c.args.place here).term) ≡ inside (plan_of here.term) = ap (λ (n : Node). inside (plan_of n.term)) (sym c.index-args-place.is) in
    (omega (arith, c.decreases, same, smaller c.args.args.now c.args.args.now c.args.place here lt c.index-args-place.is refl), tt)

pub argument_fits-returns-clause-fits : goal.argument_fits-returns-clause-fits
argument_fits-returns-clause-fits t c =
    let lt : c.args.place < length c.args.args.now = omega arith in
    let names = listed c.args.names.now in
    let here = c.index-args-place.result in
    let number : c.in_ok-node.node ≡ c.args.first + nodes (plans_of (take c.args.place c.args.args.now)) =
    c.in_ok-node.ensures.sum ∙ ap (λ n. c.args.first + n) c.in_ok-count.ensures.count
    in
    c.in_ok-fits.ensures.fits ∙ ap (λ (m : Node). fits c.args.wants (kinds_of names false c.in_ok-node.node (plan_of m.term))) (sym c.index-args-place.is)
    ∙ ap (λ n. fits c.args.wants (kinds_of names false n (plan_of here.term))) number
    ∙ ap (fits c.args.wants) (sym (kinds_there names any_data c.args.first c.args.args.now c.args.place here lt c.index-args-place.is))

pub argument_fits-returns-in_err-count-clause-full : goal.argument_fits-returns-in_err-count-clause-full
argument_fits-returns-in_err-count-clause-full t c =
    let full : 2 ^ 32 ≤ c.args.first + nodes (plans_of c.args.args.now) = omega (arith, c.in_err-count.ensures.full, count_before c.args.args.now c.args.place) in
    where_err c.from_residual.result _ full

pub argument_fits-returns-in_err-node-clause-full : goal.argument_fits-returns-in_err-node-clause-full
argument_fits-returns-in_err-node-clause-full t c =
    let full : 2 ^ 32 ≤ c.args.first + nodes (plans_of c.args.args.now) = omega (arith, c.in_err-node.ensures.full, c.in_ok-count.ensures.count, count_before c.args.args.now c.args.place) in
    where_err c.from_residual-in_err-node.result _ full

pub argument_fits-returns-in_err-fits-clause-full : goal.argument_fits-returns-in_err-fits-clause-full
argument_fits-returns-in_err-fits-clause-full t c =
    let lt : c.args.place < length c.args.args.now = omega arith in
    let here = c.index-args-place.result in
    let same : inside (plan_of (get_or c.args.args.now c.args.place here).term) ≡ inside (plan_of here.term) = ap (λ (n : Node). inside (plan_of n.term)) (sym c.index-args-place.is) in
    let full : 2 ^ 32 ≤ c.args.first + nodes (plans_of c.args.args.now) =
    omega (arith, c.in_err-fits.ensures.full, c.in_ok-node.ensures.sum, c.in_ok-count.ensures.count, same, count_through c.args.args.now c.args.place here lt c.index-args-place.is)
    in
    where_err c.from_residual-in_err-fits.result _ full

pub fits-returns-in_err-form_fits-in-Form-clause-full : goal.fits-returns-in_err-form_fits-in-Form-clause-full
fits-returns-in_err-form_fits-in-Form-clause-full t c =
    let full : 2 ^ 32 ≤ suc c.args.node + inside (plan_of c.args.term.now) =
    omega (arith, c.in_err-form_fits-in-Form.ensures.full, c.in_ok-after-in-Form.ensures.next, inside_form c.args.term.now c.in-Form.op c.in-Form.args c.in-Form.body c.deref.result.now c.in-Form.body.items c.in-Form.is c.deref.ensures.value refl)
    in
    where_err c.from_residual-in_err-form_fits-in-Form.result _ full
