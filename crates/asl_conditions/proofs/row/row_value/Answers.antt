use Rattle.std.proofs.Common.{rules, ◌≡◌, ◌+◌, ◌-◌, ◌<◌, sym, ap, ◌∙◌, arith, subst, Some, None}
use Rattle.std.specs.Option.{option_and_then}
use Rattle.std.proofs.lemmas.Result.{err_from_is_err_and}
use Rattle.asl_conditions.specs.Operators.{pass, passes}
use Rattle.asl_conditions.specs.Reading.{Fails}
use Rattle.asl_conditions.proofs.Rows.{Passed, passes_end, passes_empty, passes_step}
use Rattle.asl_conditions.proofs.Readings.{fails_along}
use Rattle.asl_conditions.proofs.row.row_value.Goals as goal

pub returns-then-is_empty : goal.returns-then-is_empty
returns-then-is_empty c = sym c.loop-level.invariant ∙ passes_empty (11 - c.loop-level.level) c.loop-level.level c.loop-level.row c.loop-level.last (search rules)

pub returns-in_err-next : goal.returns-in_err-next
returns-in_err-next c =
    let p = err_from_is_err_and c.from_residual.result c.from_residual.ensures.1 in
    let some : 0 < 11 - c.loop-level.level = omega arith in
    let same : c.as_slice.result.now ≡ c.loop-level.row = search rules in
    let fault = subst (λ r. Fails c.in_err-next.field-0.0 (pass c.loop-level.level None r c.loop-level.last)) same c.in_err-next.ensures in
    rw (p.1, p.2) (fails_along c.in_err-next.field-0.0 (pass c.loop-level.level None c.loop-level.row c.loop-level.last) _ (λ e.
    sym c.loop-level.invariant ∙ passes_step (11 - c.loop-level.level) c.loop-level.level c.loop-level.row c.loop-level.last some ∙ ap (option_and_then (λ (r : Passed). passes (11 - c.loop-level.level - 1) (c.loop-level.level + 1) r.0 r.1)) e) fault)

pub loop-level-preserved : goal.loop-level-preserved
loop-level-preserved c =
    let some : 0 < 11 - c.loop-level.level = omega arith in
    let same : c.as_slice.result.now ≡ c.loop-level.row = search rules in
    let went = subst (λ r. pass c.loop-level.level None r c.loop-level.last ≡ Some (c.in_ok-next.next, c.in_ok-next.value)) same c.in_ok-next.ensures in
    ap (λ n. passes n (c.loop-level.level + 1) c.in_ok-next.next c.in_ok-next.value) (omega arith)
    ∙ sym (passes_step (11 - c.loop-level.level) c.loop-level.level c.loop-level.row c.loop-level.last some ∙ ap (option_and_then (λ (r : Passed). passes (11 - c.loop-level.level - 1) (c.loop-level.level + 1) r.0 r.1)) went)
    ∙ c.loop-level.invariant

pub returns : goal.returns
returns c = sym c.loop-level.invariant ∙ passes_end (11 - c.loop-level.level) c.loop-level.level c.loop-level.row c.loop-level.last (omega arith)
