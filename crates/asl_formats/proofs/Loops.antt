-- A For does what the While does that stands for it.
use Rattle.std.proofs.Common.{◌≡◌, ℕ, zero, suc, Bool, true, false, List, refl, sym, ap, ◌∙◌, arith}
use Rattle.std.proofs.Math.Path.{fun_ext}
use Rattle.std.specs.Prelude.{if◌then◌else◌, ◌&&◌, ◌||◌, not}
use Rattle.acpi_values.specs.declared.width.Width.{Width}
use Rattle.acpi_values.specs.Paths.{AbsolutePath}
use Rattle.acpi_values.specs.Values.{Value}
use Rattle.acpi_state.specs.State.{State}
use Rattle.acpi_state.specs.Outcomes.{Flow, Normal, Gives, NoValue, Result, Done, Stopped, done, next, then_run, value_of, on_flow}
use Rattle.acpi_state.specs.Outcomes as O
use Rattle.acpi_state.specs.Loops.{is_true, after_turn, loop}
use Rattle.asl_tree.specs.Names.{Known}
use Rattle.asl_tree.specs.Tree.{Tree, Omitted, Container', Scope, If, ElseIf, Else, For, Switch, Case, Default, Continue, Trees, no_trees, tree}
use Rattle.asl_meaning.specs.Continues.{Lasts, Lasting}
use Rattle.asl_meaning.specs.Meaning as S
use Rattle.asl_meaning.specs.Meaning.{SourceRun, leave_switch, unless_omitted, then_step}
use Rattle.asl_meaning.proofs.Lasting.{lasting}
use Rattle.asl_prints.specs.Forms.{followed, optional, stepped, stepped_all, while_tree, for_trees, is_expression, has_far_continue, have_far_continue, is_steppable}
use Rattle.asl_prints.proofs.Runs.{then_assoc, then_same}
use Rattle.asl_formats.proofs.Settling.{Settles, Settled, undue, followed_runs, settled}

first_false : (a b : Bool) → (a || b) ≡ false → a ≡ false
first_false true b h = absurd (grind arith)
first_false false b h = refl

rest_false : (a b : Bool) → (a || b) ≡ false → b ≡ false
rest_false true b h = absurd (grind arith)
rest_false false b h = h

pub first_true : (a b : Bool) → (a && b) ≡ true → a ≡ true
first_true true b h = refl
first_true false b h = absurd (grind arith)

rest_true : (a b : Bool) → (a && b) ≡ true → b ≡ true
rest_true true b h = h
rest_true false b h = absurd (grind arith)

not_true : (a : Bool) → not a ≡ true → a ≡ false
not_true true h = absurd (grind arith)
not_true false h = refl

abbrev IsOther : Tree → Type 0
IsOther Continue = ⊥
IsOther t = Unit {0}

-- a Continue, with some steps before it
abbrev onward : SourceRun Flow → Flow → SourceRun Flow
onward steps O.Continue = then_run steps (λ g. on_flow g (λ d. done O.Continue))
onward steps f = done f

-- what never ends with a Continue
kept : (m steps : SourceRun Flow) → Lasting m → m ≡ then_run m (onward steps)
kept m steps h = fun_ext (λ s. by_result (m s).result (m s).state (h.by s))
  where
    by_result : (r : Result Flow) (t : State Trees) → Lasts r → record { result = r; state = t } ≡ next r t (onward steps)
    by_result (Done O.Continue) t p = absurd p
    by_result (Done _) t p = refl
    by_result (Stopped x) t p = refl

-- a choice, of which the other run is short
chosen : (b d : Bool) (m m' steps : SourceRun Flow) → m' ≡ then_run m (onward steps) → (if b then m' else done (Normal d)) ≡ then_run (if b then m else done (Normal d)) (onward steps)
chosen true d m m' steps e = e
chosen false d m m' steps e = refl

either : (b : Bool) (m m' n n' steps : SourceRun Flow) → m' ≡ then_run m (onward steps) → n' ≡ then_run n (onward steps) → (if b then m' else n') ≡ then_run (if b then m else n) (onward steps)
either true m m' n n' steps e f = e
either false m m' n n' steps e f = f

abbrev continued : Flow → SourceRun Flow
continued g = on_flow g (λ d. done O.Continue)

-- what follows a term, with a Continue's steps before it
abbrev going : SourceRun Flow → (Bool → SourceRun Flow) → Flow → SourceRun Flow
going steps go f = on_flow f (λ d. then_run (go d) (onward steps))

-- terms one after another
push : (m steps : SourceRun Flow) (go : Bool → SourceRun Flow) → then_run (then_run m (onward steps)) (λ f. on_flow f (λ d. then_run (go d) (onward steps))) ≡ then_run (then_run m (λ f. on_flow f go)) (onward steps)
push m steps go = then_assoc m (onward steps) (going steps go) ∙ then_same m by_flow ∙ sym (then_assoc m (λ f. on_flow f go) (onward steps))
  where
    by_end : (g : Flow) → then_run (continued g) (going steps go) ≡ continued g
    by_end (Normal d) = refl
    by_end (Gives v) = refl
    by_end NoValue = refl
    by_end O.Break = refl
    by_end O.Continue = refl
    by_end (O.Return v) = refl

    by_flow : (f : Flow) → then_run (onward steps f) (going steps go) ≡ then_run (on_flow f go) (onward steps)
    by_flow O.Continue = then_assoc steps continued (going steps go) ∙ then_same steps by_end
    by_flow _ = refl

-- a Switch is left by a Continue, but not by a Break
left : (m steps : SourceRun Flow) → Settled steps → then_run (then_run m (onward steps)) leave_switch ≡ then_run (then_run m leave_switch) (onward steps)
left m steps h = then_assoc m (onward steps) leave_switch ∙ then_same m by_flow ∙ sym (then_assoc m leave_switch (onward steps))
  where
    by_result : (r : Result Flow) (t : State Trees) → Settles r → next r t (λ g. then_run (continued g) leave_switch) ≡ next r t continued
    by_result (Done (Normal d)) t p = refl
    by_result (Done (Gives v)) t p = refl
    by_result (Done NoValue) t p = refl
    by_result (Done _) t p = absurd p
    by_result (Stopped x) t p = refl

    by_flow : (f : Flow) → then_run (onward steps f) leave_switch ≡ then_run (leave_switch f) (onward steps)
    by_flow O.Continue = then_assoc steps continued leave_switch ∙ fun_ext (λ s. by_result (steps s).result (steps s).state (h.by s))
    by_flow _ = refl

module _ (width : Width) (known : Known) (turns : ℕ) (call : AbsolutePath → List Value → SourceRun Flow) (calls : (path : AbsolutePath) (args : List Value) → Settled (call path args)) where
  abbrev R : Tree → AbsolutePath → Bool → SourceRun Flow
  R = S.run width known turns call

  abbrev L : Trees → AbsolutePath → Bool → SourceRun Flow
  L = S.run_all width known turns call

  abbrev V : Tree → AbsolutePath → SourceRun Value
  V t scope = then_run (R t scope false) value_of

  abbrev N : Tree → AbsolutePath → SourceRun ℕ
  N t scope = S.size_by width known (R t scope false)

  lasting_call : (path : AbsolutePath) (args : List Value) → Lasting (call path args)
  lasting_call path args = record { by = λ s. by_result (call path args s).result ((calls path args).by s) }
    where
      by_result : (r : Result Flow) → Settles r → Lasts r
      by_result (Done (Normal d)) p = tt
      by_result (Done (Gives v)) p = tt
      by_result (Done NoValue) p = tt
      by_result (Done _) p = absurd p
      by_result (Stopped x) p = tt

  -- what is asked of steps in a scope: they ask for no Else, end as expressions do, and are no Case and no Default
  pub record AreSteps (steps : Trees) (scope : AbsolutePath) : Type 0 where
    pub no_due : (due : Bool) → L steps scope due ≡ L steps scope false
    pub ends : Settled (L steps scope false)
    pub no_case : (ts : Trees) (v : Value) (m : SourceRun Flow) → S.run_cases width known turns call (followed steps ts) v scope m ≡ S.run_cases width known turns call ts v scope m
    pub no_default : (ts : Trees) → S.run_default width known turns call (followed steps ts) scope ≡ S.run_default width known turns call ts scope

  module _ (steps : Trees) (scope : AbsolutePath) (are : AreSteps steps scope) where
    abbrev X : SourceRun Flow
    X = L steps scope false

    abbrev Goes : SourceRun Flow → SourceRun Flow → Type 0
    Goes m m' = m' ≡ then_run m (onward X)

    chosen_if : (test : Tree) (body : Trees) → Goes (L body scope false) (L (stepped_all steps body) scope false) → (due : Bool) → Goes (R (If test body) scope due) (R (If test (stepped_all steps body)) scope due)
    chosen_if test body e due =
        then_same (N test scope) (λ n. chosen (is_true n) true (L body scope false) (L (stepped_all steps body) scope false) X e)
        ∙ sym (then_assoc (N test scope) (λ n. if is_true n then L body scope false else done (Normal true)) (onward X))

    mutual
      term : (t : Tree) → IsOther t → has_far_continue t ≡ false → (due : Bool) → Goes (R t scope due) (R (stepped steps t) scope due)
      term (If test body) o h due = chosen_if test body (list body h false) due
      term (ElseIf test body) o h due = chosen due false (R (If test body) scope false) (R (If test (stepped_all steps body)) scope false) X (chosen_if test body (list body h false) false)
      term (Else body) o h due = chosen due false (L body scope false) (L (stepped_all steps body) scope false) X (list body h false)
      term (Switch value cases) o h due =
          then_same (V value scope) (λ v. ap (λ m. then_run m leave_switch) (in_cases cases h v _ _ (in_default cases h)) ∙ left (S.run_cases width known turns call cases v scope (S.run_default width known turns call cases scope)) X are.ends)
          ∙ sym (then_assoc (V value scope) (λ v. then_run (S.run_cases width known turns call cases v scope (S.run_default width known turns call cases scope)) leave_switch) (onward X))
      term (Case value body) o h due = refl
      term (Default body) o h due = refl
      term (Container' kind at name body) o h due = kept (R (Container' kind at name body) scope due) X (lasting width known turns call lasting_call (Container' kind at name body) h scope due)
      term (Scope here at name body) o h due = kept (R (Scope here at name body) scope due) X (lasting width known turns call lasting_call (Scope here at name body) h scope due)
      term Continue o h due = absurd o
      term t o h due = kept (R t scope due) X (lasting width known turns call lasting_call t refl scope due)

      list : (ts : Trees) → have_far_continue ts ≡ false → (due : Bool) → Goes (L ts scope due) (L (stepped_all steps ts) scope due)
      list no_trees h due = refl
      list (tree Continue ts) h due =
          followed_runs width known turns call steps (tree Continue (stepped_all steps ts)) scope (λ d. refl) due
          ∙ ap (λ m. then_run m (λ f. on_flow f (L (tree Continue (stepped_all steps ts)) scope))) (are.no_due due)
      list (tree t ts) h due =
          ap (λ m. then_run m (λ f. on_flow f (L (stepped_all steps ts) scope))) (term t tt (first_false (has_far_continue t) (have_far_continue ts) h) due)
          ∙ ap (λ (go : Bool → SourceRun Flow). then_run (then_run (R t scope due) (onward X)) (λ f. on_flow f go)) (fun_ext (λ d. list ts (rest_false (has_far_continue t) (have_far_continue ts) h) d))
          ∙ push (R t scope due) X (L ts scope)

      in_cases : (ts : Trees) → have_far_continue ts ≡ false → (v : Value) (m m' : SourceRun Flow) → Goes m m' → Goes (S.run_cases width known turns call ts v scope m) (S.run_cases width known turns call (stepped_all steps ts) v scope m')
      in_cases no_trees h v m m' e = e
      in_cases (tree (Case value body) cases) h v m m' e =
          let hits = S.hits width known turns call value (S.equals width known v (V value scope)) v scope in
          then_same hits (λ hit. either hit (L body scope false) (L (stepped_all steps body) scope false) (S.run_cases width known turns call cases v scope m) (S.run_cases width known turns call (stepped_all steps cases) v scope m') X
          (list body (first_false (have_far_continue body) (have_far_continue cases) h) false) (in_cases cases (rest_false (have_far_continue body) (have_far_continue cases) h) v m m' e))
          ∙ sym (then_assoc hits (λ hit. if hit then L body scope false else S.run_cases width known turns call cases v scope m) (onward X))
      in_cases (tree Continue cases) h v m m' e = are.no_case (tree Continue (stepped_all steps cases)) v m' ∙ in_cases cases h v m m' e
      in_cases (tree t cases) h v m m' e = in_cases cases (rest_false (has_far_continue t) (have_far_continue cases) h) v m m' e

      in_default : (ts : Trees) → have_far_continue ts ≡ false → Goes (S.run_default width known turns call ts scope) (S.run_default width known turns call (stepped_all steps ts) scope)
      in_default no_trees h = refl
      in_default (tree (Default body) cases) h = list body (first_false (have_far_continue body) (have_far_continue cases) h) false
      in_default (tree Continue cases) h = are.no_default (tree Continue (stepped_all steps cases)) ∙ in_default cases h
      in_default (tree t cases) h = in_default cases (rest_false (has_far_continue t) (have_far_continue cases) h)

    -- a turn: the step is a term of its own, or the end of the body
    module _ (step : SourceRun Flow) (ends : X ≡ then_run step (λ g. on_flow g (λ d. done (Normal false)))) (body : Trees) (far : have_far_continue body ≡ false) where
      abbrev Long : SourceRun Flow
      Long = L (followed (stepped_all steps body) steps) scope false

      abbrev Short : SourceRun Flow
      Short = then_run (L body scope false) (λ f. then_step f step)

      module _ (again : SourceRun Flow) where
        abbrev after : Flow → SourceRun Flow
        after f = after_turn f again

        abbrev next_steps : Flow → SourceRun Flow
        next_steps f = on_flow f (L steps scope)

        -- the steps at the end of a turn
        at_end : then_run X after ≡ then_run step after
        at_end = ap (λ m. then_run m after) ends ∙ then_assoc step (λ g. on_flow g (λ d. done (Normal false))) after ∙ then_same step by_flow
          where
            by_flow : (g : Flow) → then_run (on_flow g (λ d. done (Normal false))) after ≡ after g
            by_flow (Normal d) = refl
            by_flow (Gives v) = refl
            by_flow NoValue = refl
            by_flow O.Break = refl
            by_flow O.Continue = refl
            by_flow (O.Return v) = refl

        -- the steps before a Continue
        at_continue : then_run (then_run (onward X O.Continue) next_steps) after ≡ then_run step after
        at_continue =
            ap (λ m. then_run m after) (then_assoc X (λ g. on_flow g (λ d. done O.Continue)) next_steps) ∙ then_assoc X (λ g. then_run (on_flow g (λ d. done O.Continue)) next_steps) after
            ∙ then_same X by_flow ∙ at_end
          where
            by_flow : (g : Flow) → then_run (then_run (on_flow g (λ d. done O.Continue)) next_steps) after ≡ after g
            by_flow (Normal d) = refl
            by_flow (Gives v) = refl
            by_flow NoValue = refl
            by_flow O.Break = refl
            by_flow O.Continue = refl
            by_flow (O.Return v) = refl

        by_flow : (f : Flow) → then_run (then_run (onward X f) next_steps) after ≡ then_run (then_step f step) after
        by_flow (Normal d) = ap (λ m. then_run m after) (are.no_due d) ∙ at_end
        by_flow (Gives v) = at_end
        by_flow NoValue = at_end
        by_flow O.Break = refl
        by_flow O.Continue = at_continue
        by_flow (O.Return v) = refl

        turn_same : then_run Long after ≡ then_run Short after
        turn_same =
            ap (λ m. then_run m after) (followed_runs width known turns call (stepped_all steps body) steps scope are.no_due false ∙ ap (λ m. then_run m next_steps) (list body far false) ∙ then_assoc (L body scope false) (onward X) next_steps)
            ∙ then_assoc (L body scope false) (λ f. then_run (onward X f) next_steps) after ∙ then_same (L body scope false) by_flow ∙ sym (then_assoc (L body scope false) (λ f. then_step f step) after)

      abbrev T : Tree → SourceRun (Bool × Unit {0})
      T test = then_run (N test scope) (λ n. done (is_true n, tt))

      pub loop_same : (n : ℕ) (test : Tree) → loop {X = Unit {0}} n (T test) (λ u. Long) ≡ loop {X = Unit {0}} n (T test) (λ u. Short)
      loop_same zero test = refl
      loop_same (suc n) test = then_same (T test) (λ r. by_test (loop_same n test) r.0)
        where
          by_test : loop {X = Unit {0}} n (T test) (λ u. Long) ≡ loop {X = Unit {0}} n (T test) (λ u. Short) → (b : Bool) →
              (if b then then_run Long (λ f. after_turn f (loop {X = Unit {0}} n (T test) (λ u. Long))) else done (Normal false)) ≡ (if b then then_run Short (λ f. after_turn f (loop {X = Unit {0}} n (T test) (λ u. Short))) else done (Normal false))
          by_test e true = ap (λ again. then_run Long (λ f. after_turn f again)) e ∙ turn_same (loop {X = Unit {0}} n (T test) (λ u. Short))
          by_test e false = refl

  -- a step, which may be left out, as steps
  no_step : (scope : AbsolutePath) → AreSteps no_trees scope
  no_step scope = record { no_due = λ due. refl; ends = record { by = λ s. tt }; no_case = λ ts v m. refl; no_default = λ ts. refl }

  step_ends : (m : SourceRun Flow) → Settled m → Settled (then_run m (λ g. on_flow g (λ d. done (Normal false))))
  step_ends m h = record { by = λ s. by_result (m s).result (m s).state (h.by s) }
    where
      by_result : (r : Result Flow) (t : State Trees) → Settles r → Settles (next r t (λ g. on_flow g (λ d. done (Normal false)))).result
      by_result (Done (Normal d)) t p = tt
      by_result (Done (Gives v)) t p = tt
      by_result (Done NoValue) t p = tt
      by_result (Done _) t p = absurd p
      by_result (Stopped x) t p = tt

  pub skips_case : (t : Tree) → is_expression t ≡ true → (scope : AbsolutePath) (ts : Trees) (v : Value) (m : SourceRun Flow) → S.run_cases width known turns call (tree t ts) v scope m ≡ S.run_cases width known turns call ts v scope m
  skips_case (Case value body) h scope ts v m = absurd (grind arith)
  skips_case t h scope ts v m = refl

  pub skips_default : (t : Tree) → is_expression t ≡ true → (scope : AbsolutePath) (ts : Trees) → S.run_default width known turns call (tree t ts) scope ≡ S.run_default width known turns call ts scope
  skips_default (Default body) h scope ts = absurd (grind arith)
  skips_default t h scope ts = refl

  one_step : (t : Tree) → is_expression t ≡ true → (scope : AbsolutePath) → AreSteps (tree t no_trees) scope
  one_step t h scope =
      record { no_due = λ due. ap (λ m. then_run m (λ g. on_flow g (λ d. done (Normal false)))) (undue width known turns call t h scope due); ends = step_ends (R t scope false) (settled width known turns call calls t h scope false); no_case = skips_case t h scope; no_default = skips_default t h scope }

  same_loop : (step : Tree) → is_expression step ≡ true → (test : Tree) (body : Trees) → have_far_continue body ≡ false → (scope : AbsolutePath) (due : Bool) →
      R (while_tree test (optional step) body) scope due ≡ loop {X = Unit {0}} turns (then_run (N test scope) (λ n. done (is_true n, tt))) (λ u. then_run (L body scope false) (λ f. then_step f (unless_omitted step (R step scope false))))
  same_loop Omitted h test body far scope due = loop_same no_trees scope (no_step scope) (done (Normal false)) refl body far turns test
  same_loop step h test body far scope due = loop_same (tree step no_trees) scope (one_step step h scope) (R step scope false) refl body far turns test

  -- a start that is there
  started : (t : Tree) → is_expression t ≡ true → (scope : AbsolutePath) (due : Bool) (looped looped' : SourceRun Flow) → looped ≡ looped' → (after : Flow → SourceRun Flow) →
      then_run (R t scope due) (λ f. on_flow f (λ d. then_run looped after)) ≡ then_run (then_run (R t scope false) (λ f. looped')) after
  started t h scope due looped looped' e after =
      ap (λ m. then_run m (λ f. on_flow f (λ d. then_run looped after))) (undue width known turns call t h scope due)
      ∙ ap (λ (m : SourceRun Flow). then_run (R t scope false) (λ f. on_flow f (λ d. then_run m after))) e
      ∙ fun_ext (λ s. by_result (R t scope false s).result (R t scope false s).state ((settled width known turns call calls t h scope false).by s))
      ∙ sym (then_assoc (R t scope false) (λ f. looped') after)
    where
      by_result : (r : Result Flow) (u : State Trees) → Settles r → next r u (λ f. on_flow f (λ d. then_run looped' after)) ≡ next r u (λ f. then_run looped' after)
      by_result (Done (Normal d)) u p = refl
      by_result (Done (Gives v)) u p = refl
      by_result (Done NoValue) u p = refl
      by_result (Done _) u p = absurd p
      by_result (Stopped x) u p = refl

  by_start : (start test step : Tree) (body rest : Trees) (scope : AbsolutePath) (due : Bool) → is_expression start ≡ true → is_expression step ≡ true → have_far_continue body ≡ false →
      L (followed (for_trees start test step body) rest) scope due ≡ then_run (R (For start test step body) scope due) (λ f. on_flow f (L rest scope))
  by_start Omitted test step body rest scope due hs h far = ap (λ m. then_run m (λ f. on_flow f (L rest scope))) (same_loop step h test body far scope due)
  by_start start test step body rest scope due hs h far =
      started start hs scope due _ _ (same_loop step h test body far scope false) (λ f. on_flow f (L rest scope))

  -- before any other terms
  pub for_same : (start test step : Tree) (body rest : Trees) (scope : AbsolutePath) (due : Bool) → is_steppable start step body ≡ true →
      L (followed (for_trees start test step body) rest) scope due ≡ then_run (R (For start test step body) scope due) (λ f. on_flow f (L rest scope))
  for_same start test step body rest scope due h =
      let inner = rest_true (is_expression start) (is_expression step && not (have_far_continue body)) h in
      by_start start test step body rest scope due (first_true (is_expression start) (is_expression step && not (have_far_continue body)) h)
      (first_true (is_expression step) (not (have_far_continue body)) inner) (not_true (have_far_continue body) (rest_true (is_expression step) (not (have_far_continue body)) inner))
