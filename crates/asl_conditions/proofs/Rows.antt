-- Rows of operands, one level after another.
use Rattle.std.proofs.Common.{◌≡◌, ℕ, zero, suc, ◌+◌, ◌-◌, ◌<◌, arith, length, Bool, true, false, List, [], ◌∷◌, ◌++◌, Option, Some, None, refl, sym, ap, ◌∙◌, append_assoc, append-nil}
use Rattle.std.specs.Prelude.{if◌then◌else◌, ◌==◌}
use Rattle.std.specs.Option.{option_and_then, option_map}
use Rattle.asl_conditions.specs.declared.operators.Operand.{Operand}
use Rattle.asl_conditions.specs.Operators.{level_of, operand, with_left, pass, passes}

abbrev pub Passed : Type 0
Passed = List Operand × ℕ

-- a row behind a front
abbrev pub with_front : List Operand → Option Passed → Option Passed
with_front front None = None
with_front front (Some r) = Some (front ++ r.0, r.1)

with_front-more : (out : List Operand) (x : Operand) (r : Option Passed) → with_front (out ++ x ∷ []) r ≡ with_front out (option_map (λ (r : Passed). (x ∷ r.0, r.1)) r)
with_front-more out x None = refl
with_front-more out x (Some r) = ap (λ (xs : List Operand). Some (xs, r.1)) (append_assoc out (x ∷ []) r.0)

pub with_front-none : (r : Option Passed) → with_front [] r ≡ r
with_front-none None = refl
with_front-none (Some r) = refl

-- what comes behind an operand whose value is known
after_by : Bool → ℕ → Operand → List Operand → ℕ → Option Passed
after_by b level x row last = if b then pass level (Some x) row last else option_map (λ (r : Passed). (x ∷ r.0, r.1)) (pass level None row last)

pass_is : (level : ℕ) (left : Option Operand) (x : Operand) (row : List Operand) (last value : ℕ) → with_left left x.value ≡ Some value
    → pass level left (x ∷ row) last ≡ after_by (level_of x.operator == level) level (operand value x.operator) row last
unfolding pass after_by
pass_is level left x row last value e =
    ap (option_and_then (λ value.
    if level_of x.operator == level then pass level (Some (operand value x.operator)) row last else option_map (λ (r : Passed). (operand value x.operator ∷ r.0, r.1)) (pass level None row last))) e

step_by : (b : Bool) (level : ℕ) (x : Operand) (row : List Operand) (last : ℕ) (out : List Operand)
    → with_front (if b then out else out ++ x ∷ []) (pass level (if b then Some x else None) row last) ≡ with_front out (after_by b level x row last)
unfolding after_by
step_by true level x row last out = refl
step_by false level x row last out = with_front-more out x (pass level None row last)

-- one operand is passed
pub pass_step : (level : ℕ) (left new_left : Option Operand) (x : Operand) (row : List Operand) (last value : ℕ) (out new_out : List Operand) → with_left left x.value ≡ Some value
    → new_left ≡ (if level_of x.operator == level then Some (operand value x.operator) else None) → new_out ≡ (if level_of x.operator == level then out else out ++ operand value x.operator ∷ [])
    → with_front new_out (pass level new_left row last) ≡ with_front out (pass level left (x ∷ row) last)
pass_step level left new_left x row last value out new_out e e1 e2 =
    ap (λ o. with_front o (pass level new_left row last)) e2
    ∙ ap (λ l. with_front (if level_of x.operator == level then out else out ++ operand value x.operator ∷ []) (pass level l row last)) e1
    ∙ step_by (level_of x.operator == level) level (operand value x.operator) row last out ∙ ap (with_front out) (sym (pass_is level left x row last value e))

pub pass_fault : (level : ℕ) (left : Option Operand) (x : Operand) (row : List Operand) (last : ℕ) (out : List Operand) → with_left left x.value ≡ None → with_front out (pass level left (x ∷ row) last) ≡ None
unfolding pass
pass_fault level left x row last out e =
    ap (λ o. with_front out (option_and_then (λ value.
    if level_of x.operator == level then pass level (Some (operand value x.operator)) row last else option_map (λ (r : Passed). (operand value x.operator ∷ r.0, r.1)) (pass level None row last)) o)) e

pub pass_end : (level : ℕ) (left : Option Operand) (last value : ℕ) (out : List Operand) → with_left left last ≡ Some value → with_front out (pass level left [] last) ≡ Some (out, value)
unfolding pass
pass_end level left last value out e = ap (λ o. with_front out (option_map (λ v. ([], v)) o)) e ∙ ap (λ (xs : List Operand). Some (xs, value)) (append-nil out)

pub pass_end_fault : (level : ℕ) (left : Option Operand) (last : ℕ) (out : List Operand) → with_left left last ≡ None → with_front out (pass level left [] last) ≡ None
unfolding pass
pass_end_fault level left last out e = ap (λ o. with_front out (option_map (λ v. ([], v)) o)) e

-- no operator is left to be applied
pub passes-none : (levels level last : ℕ) → passes levels level [] last ≡ Some last
unfolding passes pass
passes-none zero level last = refl
passes-none (suc n) level last = passes-none n (level + 1) last

pub passes_end : (levels level : ℕ) (row : List Operand) (last : ℕ) → levels ≡ 0 → passes levels level row last ≡ Some last
unfolding passes
passes_end zero level row last e = refl
passes_end (suc n) level row last e = absurd (omega arith)

pub passes_empty : (levels level : ℕ) (row : List Operand) (last : ℕ) → length row ≡ 0 → passes levels level row last ≡ Some last
passes_empty levels level [] last e = passes-none levels level last
passes_empty levels level (x ∷ row) last e = absurd (omega arith)

pub passes_step : (levels level : ℕ) (row : List Operand) (last : ℕ) → 0 < levels → passes levels level row last ≡ option_and_then (λ (r : Passed). passes (levels - 1) (level + 1) r.0 r.1) (pass level None row last)
unfolding passes
passes_step zero level row last h = absurd (omega arith)
passes_step (suc n) level row last h = ap (λ m. option_and_then (λ (r : Passed). passes m (level + 1) r.0 r.1) (pass level None row last)) (omega arith)
