use Rattle.std.proofs.Common.{◌^◌, ◌≤◌, sym, ◌∙◌, refl, arith}
use Rattle.term_plans.specs.Plans.{plan_of, plans_of}
use Rattle.asl_numbers.specs.Numbers.{inside, nodes}
use Rattle.asl_numbers.proofs.Loops.{smaller}
use Rattle.type_checks.proofs.Terms.{inside_call, inside_form, count_at, count_next, count_done, count_none, where_err}
use Rattle.type_checks.proofs.check.+count.Goals as goal

pub count-count_inside-requires : goal.count-count_inside-requires
count-count_inside-requires t c = omega (arith, c.decreases, smaller c.args.nodes.now c.args.nodes.now c.loop-node.node-index c.node-item.result c.loop-node-test.true c.node-item.is refl)

pub count-loop-node-init : goal.count-loop-node-init
count-loop-node-init t c = count_none c.args.nodes.now

pub count-loop-node-preserved : goal.count-loop-node-preserved
count-loop-node-preserved t c =
    count_next c.args.nodes.now c.loop-node.node-index c.loop-node.next _ c.node-item.result c.loop-node-test.true c.node-item.is c.loop-node.invariant (omega (arith, c.in_ok-next.ensures.sum, c.in_ok-after.ensures.next, c.in_ok-count_inside.ensures.count))

pub count-returns-clause-count : goal.count-returns-clause-count
count-returns-clause-count t c = count_done c.args.nodes.now c.loop-node.node-index c.loop-node.next c.loop-node-test.false c.loop-node.invariant

pub count_inside-count-requires : goal.count_inside-count-requires
count_inside-count-requires t c = omega (arith, c.decreases, inside_call c.args.term.now c.in-Call.path c.in-Call.args c.deref.result.now c.in-Call.is c.deref.ensures.value)

pub count_inside-count-requires-in-Form : goal.count_inside-count-requires-in-Form
count_inside-count-requires-in-Form t c = omega (arith, c.decreases, inside_form c.args.term.now c.in-Form.op c.in-Form.args c.in-Form.body c.deref-in-Form.result.now c.in-Form.body.items c.in-Form.is c.deref-in-Form.ensures.value refl)

pub count_inside-count-requires-in-Form-2 : goal.count_inside-count-requires-in-Form-2
count_inside-count-requires-in-Form-2 t c = omega (arith, c.decreases, inside_form c.args.term.now c.in-Form.op c.in-Form.args c.in-Form.body c.in-Form.args.items c.deref-in-Form-2.result.now c.in-Form.is refl c.deref-in-Form-2.ensures.value)

pub count_inside-returns-in_ok-count-in-Call-clause-count : goal.count_inside-returns-in_ok-count-in-Call-clause-count
count_inside-returns-in_ok-count-in-Call-clause-count t c = c.in_ok-count-in-Call.ensures.count ∙ sym (inside_call c.args.term.now c.in-Call.path c.in-Call.args c.deref.result.now c.in-Call.is c.deref.ensures.value)

pub count_inside-returns-in_ok-sum-in-Form-clause-count : goal.count_inside-returns-in_ok-sum-in-Form-clause-count
count_inside-returns-in_ok-sum-in-Form-clause-count t c =
    omega (arith, c.in_ok-sum-in-Form.ensures.sum, c.in_ok-count-in-Form.ensures.count, c.in_ok-count-in-Form-2.ensures.count, inside_form c.args.term.now c.in-Form.op c.in-Form.args c.in-Form.body c.deref-in-Form.result.now c.deref-in-Form-2.result.now c.in-Form.is c.deref-in-Form.ensures.value c.deref-in-Form-2.ensures.value)

pub count-returns-in_err-after-clause-full : goal.count-returns-in_err-after-clause-full
count-returns-in_err-after-clause-full t c =
    let here = count_at c.args.nodes.now c.loop-node.node-index c.node-item.result c.loop-node-test.true c.node-item.is in
    let full : 2 ^ 32 ≤ nodes (plans_of c.args.nodes.now) = omega (arith, here, c.loop-node.invariant, c.in_err-after.ensures.full) in
    where_err c.from_residual.result _ full

pub count-returns-in_err-count_inside-clause-full : goal.count-returns-in_err-count_inside-clause-full
count-returns-in_err-count_inside-clause-full t c =
    let here = count_at c.args.nodes.now c.loop-node.node-index c.node-item.result c.loop-node-test.true c.node-item.is in
    let full : 2 ^ 32 ≤ nodes (plans_of c.args.nodes.now) = omega (arith, here, c.loop-node.invariant, c.in_err-count_inside.ensures.full) in
    where_err c.from_residual-in_err-count_inside.result _ full

pub count-returns-in_err-next-clause-full : goal.count-returns-in_err-next-clause-full
count-returns-in_err-next-clause-full t c =
    let here = count_at c.args.nodes.now c.loop-node.node-index c.node-item.result c.loop-node-test.true c.node-item.is in
    let full : 2 ^ 32 ≤ nodes (plans_of c.args.nodes.now) =
    omega (arith, here, c.loop-node.invariant, c.in_err-next.ensures.full, c.in_ok-after.ensures.next, c.in_ok-count_inside.ensures.count)
    in
    where_err c.from_residual-in_err-next.result _ full

pub count_inside-returns-in_err-count-in-Call-clause-full : goal.count_inside-returns-in_err-count-in-Call-clause-full
count_inside-returns-in_err-count-in-Call-clause-full t c =
    let full : 2 ^ 32 ≤ inside (plan_of c.args.term.now) = omega (arith, c.in_err-count-in-Call.ensures.full, inside_call c.args.term.now c.in-Call.path c.in-Call.args c.deref.result.now c.in-Call.is c.deref.ensures.value) in
    where_err c.from_residual.result _ full

pub count_inside-returns-in_err-count-in-Form-clause-full : goal.count_inside-returns-in_err-count-in-Form-clause-full
count_inside-returns-in_err-count-in-Form-clause-full t c =
    let full : 2 ^ 32 ≤ inside (plan_of c.args.term.now) =
    omega (arith, c.in_err-count-in-Form.ensures.full, inside_form c.args.term.now c.in-Form.op c.in-Form.args c.in-Form.body c.deref-in-Form.result.now c.in-Form.body.items c.in-Form.is c.deref-in-Form.ensures.value refl)
    in
    where_err c.from_residual-in_err-count-in-Form.result _ full

pub count_inside-returns-in_err-count-in-Form-2-clause-full : goal.count_inside-returns-in_err-count-in-Form-2-clause-full
count_inside-returns-in_err-count-in-Form-2-clause-full t c =
    let full : 2 ^ 32 ≤ inside (plan_of c.args.term.now) =
    omega (arith, c.in_err-count-in-Form-2.ensures.full, inside_form c.args.term.now c.in-Form.op c.in-Form.args c.in-Form.body c.in-Form.args.items c.deref-in-Form-2.result.now c.in-Form.is refl c.deref-in-Form-2.ensures.value)
    in
    where_err c.from_residual-in_err-count-in-Form-2.result _ full

pub count_inside-returns-in_err-sum-in-Form-clause-full : goal.count_inside-returns-in_err-sum-in-Form-clause-full
count_inside-returns-in_err-sum-in-Form-clause-full t c =
    let full : 2 ^ 32 ≤ inside (plan_of c.args.term.now) =
    omega (arith, c.in_err-sum-in-Form.ensures.full, c.in_ok-count-in-Form.ensures.count, c.in_ok-count-in-Form-2.ensures.count, inside_form c.args.term.now c.in-Form.op c.in-Form.args c.in-Form.body c.deref-in-Form.result.now c.deref-in-Form-2.result.now c.in-Form.is c.deref-in-Form.ensures.value c.deref-in-Form-2.ensures.value)
    in
    where_err c.from_residual-in_err-sum-in-Form.result _ full
