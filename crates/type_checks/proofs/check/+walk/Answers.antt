use Rattle.std.proofs.Common.{◌≡◌, ◌+◌, ◌++◌, length, None, sym, ap, ◌∙◌, refl, append-nil, arith}
use Rattle.term_plans.specs.Plans.{plan_of}
use Rattle.asl_numbers.specs.Numbers.{inside}
use Rattle.asl_numbers.proofs.Loops.{smaller}
use Rattle.type_checks.specs.Names.{listed}
use Rattle.type_checks.specs.Types.{errors_inside}
use Rattle.type_checks.proofs.Terms.{call_is, inside_call, inside_form, none_inside}
use Rattle.type_checks.proofs.Walks.{none_checked, next_checked, all_counted, all_checked, none_behind, none_there, none_wrong, form_told}
use Rattle.type_checks.proofs.check.+walk.Goals as goal

pub errors_of-errors_inside-requires : goal.errors_of-errors_inside-requires
errors_of-errors_inside-requires t c = omega (arith, c.decreases, smaller c.args.nodes.now c.args.nodes.now c.loop-at.at c.index-nodes-at.result c.loop-at-test.true c.index-nodes-at.is refl)

pub errors_of-loop-at-init : goal.errors_of-loop-at-init
errors_of-loop-at-init t c = none_checked (listed c.args.names.now) c.args.asker c.args.nodes.now c.args.first c.args.out.now

pub errors_of-loop-at-preserved : goal.errors_of-loop-at-preserved
errors_of-loop-at-preserved t c =
    let names = listed c.args.names.now in
    let node = c.index-nodes-at.result in
    next_checked names c.args.asker c.args.nodes.now c.args.first c.args.out.now c.loop-at.at c.loop-at.next _ c.loop-at.out c.place_errors.new.out c.errors_inside.new.out node c.loop-at-test.true c.index-nodes-at.is c.loop-at.invariant
    c.in_ok-place_errors.ensures
    (c.in_ok-next.ensures.told ∙ ap (λ n. c.place_errors.new.out ++ errors_inside names n (plan_of node.term)) c.in_ok-after.ensures.next)
    (c.in_ok-next.ensures.next ∙ ap (λ n. n + inside (plan_of node.term)) c.in_ok-after.ensures.next)

pub errors_of-returns-clause-next : goal.errors_of-returns-clause-next
errors_of-returns-clause-next t c = all_counted (listed c.args.names.now) c.args.asker c.args.nodes.now c.args.first c.args.out.now c.loop-at.at c.loop-at.next c.loop-at.out c.loop-at-test.false c.loop-at.invariant

pub errors_of-returns-clause-told : goal.errors_of-returns-clause-told
errors_of-returns-clause-told t c = all_checked (listed c.args.names.now) c.args.asker c.args.nodes.now c.args.first c.args.out.now c.loop-at.at c.loop-at.next c.loop-at.out c.loop-at-test.false c.loop-at.invariant

pub errors_inside-errors_of-requires : goal.errors_inside-errors_of-requires
errors_inside-errors_of-requires t c = omega (arith, c.decreases, inside_call c.args.term.now c.in-Call.path c.in-Call.args c.deref.result.now c.in-Call.is c.deref.ensures.value)

pub errors_inside-errors_of-requires-in-Form : goal.errors_inside-errors_of-requires-in-Form
errors_inside-errors_of-requires-in-Form t c = omega (arith, c.decreases, inside_form c.args.term.now c.in-Form.op c.in-Form.args c.in-Form.body c.deref-in-Form.result.now c.in-Form.body.items c.in-Form.is c.deref-in-Form.ensures.value refl)

pub errors_inside-errors_of-requires-in-Form-2 : goal.errors_inside-errors_of-requires-in-Form-2
errors_inside-errors_of-requires-in-Form-2 t c = omega (arith, c.decreases, inside_form c.args.term.now c.in-Form.op c.in-Form.args c.in-Form.body c.in-Form.args.items c.deref-in-Form-2.result.now c.in-Form.is refl c.deref-in-Form-2.ensures.value)

pub errors_inside-returns-in_default-clause-next : goal.errors_inside-returns-in_default-clause-next
errors_inside-returns-in_default-clause-next t c = omega (arith, none_inside c.args.term.now c.in_default.not-Call c.in_default.not-Form)

pub errors_inside-returns-in_default-clause-told : goal.errors_inside-returns-in_default-clause-told
errors_inside-returns-in_default-clause-told t c =
    sym (append-nil c.args.out.now) ∙ ap (λ ms. c.args.out.now ++ ms) (sym (none_wrong (listed c.args.names.now) c.args.first c.args.term.now c.in_default.not-Call c.in_default.not-Form))

pub errors_inside-returns-in_ok-next-in-Call-clause-next : goal.errors_inside-returns-in_ok-next-in-Call-clause-next
errors_inside-returns-in_ok-next-in-Call-clause-next t c =
    omega (arith, c.in_ok-next-in-Call.ensures.next, inside_call c.args.term.now c.in-Call.path c.in-Call.args c.deref.result.now c.in-Call.is c.deref.ensures.value)

pub errors_inside-returns-in_ok-next-in-Call-clause-told : goal.errors_inside-returns-in_ok-next-in-Call-clause-told
errors_inside-returns-in_ok-next-in-Call-clause-told t c =
    c.in_ok-next-in-Call.ensures.told
    ∙ ap (λ p. c.args.out.now ++ errors_inside (listed c.args.names.now) c.args.first p) (sym (call_is c.args.term.now c.in-Call.path c.in-Call.args c.deref.result.now c.in-Call.is c.deref.ensures.value))

pub errors_inside-returns-in_ok-next-in-Form-2-clause-next : goal.errors_inside-returns-in_ok-next-in-Form-2-clause-next
errors_inside-returns-in_ok-next-in-Form-2-clause-next t c =
    omega (arith, c.in_ok-next-in-Form.ensures.next, c.in_ok-next-in-Form-2.ensures.next, inside_form c.args.term.now c.in-Form.op c.in-Form.args c.in-Form.body c.deref-in-Form.result.now c.deref-in-Form-2.result.now c.in-Form.is c.deref-in-Form.ensures.value c.deref-in-Form-2.ensures.value)

pub errors_inside-returns-in_ok-next-in-Form-2-clause-told : goal.errors_inside-returns-in_ok-next-in-Form-2-clause-told
errors_inside-returns-in_ok-next-in-Form-2-clause-told t c =
    form_told (listed c.args.names.now) c.args.first _ c.args.term.now c.in-Form.op c.in-Form.args c.in-Form.body c.deref-in-Form.result.now c.deref-in-Form-2.result.now c.args.out.now _ _
    c.in-Form.is c.deref-in-Form.ensures.value c.deref-in-Form-2.ensures.value c.in_ok-next-in-Form.ensures.next c.in_ok-next-in-Form.ensures.told c.in_ok-next-in-Form-2.ensures.told

pub errors_inside-returns-then-is_empty-clause-next : goal.errors_inside-returns-then-is_empty-clause-next
errors_inside-returns-then-is_empty-clause-next t c =
    let none : length c.in-Form.body.items ≡ 0 = grind (arith, c.is_empty.ensures, c.if-is_empty.true) in
    omega (arith, c.in_ok-next-in-Form.ensures.next, none_there c.in-Form.body.items none, inside_form c.args.term.now c.in-Form.op c.in-Form.args c.in-Form.body c.deref-in-Form.result.now c.in-Form.body.items c.in-Form.is c.deref-in-Form.ensures.value refl)

pub errors_inside-returns-then-is_empty-clause-told : goal.errors_inside-returns-then-is_empty-clause-told
errors_inside-returns-then-is_empty-clause-told t c =
    let names = listed c.args.names.now in
    let none : length c.in-Form.body.items ≡ 0 = grind (arith, c.is_empty.ensures, c.if-is_empty.true) in
    form_told names c.args.first c.in_ok-next-in-Form.next c.args.term.now c.in-Form.op c.in-Form.args c.in-Form.body c.deref-in-Form.result.now c.in-Form.body.items c.args.out.now _ _
    c.in-Form.is c.deref-in-Form.ensures.value refl c.in_ok-next-in-Form.ensures.next c.in_ok-next-in-Form.ensures.told (none_behind names None 0 c.in_ok-next-in-Form.next c.in-Form.body.items c.errors_of-in-Form.new.out none)
