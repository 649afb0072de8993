-- Lists do what they do with loops for their Switches.
use Rattle.std.proofs.Common.{◌≡◌, ℕ, suc, ◌+◌, ◌<◌, ◌≤◌, max, Bool, true, false, List, refl, ap, subst, arith}
use Rattle.std.proofs.Math.Nat.{le-max_left, le-max_right}
use Rattle.std.proofs.Math.Path.{fun_ext}
use Rattle.std.specs.Prelude.{nat_eq, ◌&&◌, ◌||◌}
use Rattle.acpi_values.specs.declared.width.Width.{Width}
use Rattle.acpi_values.specs.Paths.{AbsolutePath}
use Rattle.acpi_values.specs.Values.{Value, Data, Integer}
use Rattle.acpi_state.specs.Objects.{MethodObject, ContainerObject}
use Rattle.acpi_state.specs.Outcomes.{Flow, Normal, Gives, NoValue, Run, done, then_run, on_flow}
use Rattle.acpi_state.specs.Outcomes as O
use Rattle.acpi_state.specs.Loops.{is_true}
use Rattle.asl_tree.specs.Names.{Known, declared_path}
use Rattle.asl_tree.specs.Tree.{Tree, Package, VarPackage, Method, Container', Scope, If, ElseIf, Else, While, Switch, Case, Default, Break, Continue, Trees, no_trees, tree}
use Rattle.asl_meaning.specs.Meaning as S
use Rattle.asl_meaning.specs.Meaning.{leave_switch}
use Rattle.hidden_locals.specs.Worlds.{World, shown_here, Clear, ClearFlow, Later, AreBegun}
use Rattle.hidden_locals.specs.Runs.{Everywhere, From}
use Rattle.hidden_locals.specs.Terms.{AreShown, UseShown}
use Rattle.hidden_locals.specs.Locals.{locals, locals_all}
use Rattle.hidden_locals.specs.Programs.{CallAlike}
use Rattle.hidden_locals.specs.Turns.{Plan, nth, local, value_local, stored, zero_word, one_word, loop_of, loop_terms, continue_terms}
use Rattle.hidden_locals.specs.Crossing.{FlagIs, past_break, Lasting, has_continue, have_continue, value_at, until_break, Crossed, Looped}
use Rattle.hidden_locals.specs.Switches.{depth, depth_all, is_crossed, are_crossed, case_test, opened, unswitched, unswitched_all, links, default_link, without_switches, HasNoMethod, StartsNoElse, IsStatement, AreStatements, AreCases, IsUnswitchable}
use Rattle.hidden_locals.proofs.Worlds.{same_world}
use Rattle.hidden_locals.proofs.Runs.{Any, from_then}
use Rattle.hidden_locals.proofs.Calls.{from_create, from_keep}
use Rattle.hidden_locals.proofs.Parts as P
use Rattle.hidden_locals.proofs.Terms as T
use Rattle.hidden_locals.proofs.Terms.{are_shown_later}
use Rattle.hidden_locals.proofs.Named.{Shows, AnyBody, shows_left, shows_right, uses}
use Rattle.hidden_locals.proofs.Statements.{both}
use Rattle.asl_meaning.proofs.Lasting.{lasting, lasting_cases, lasting_default}
use Rattle.hidden_locals.proofs.Flows.{from_lasting}
use Rattle.hidden_locals.proofs.Steps.{goes_so}
use Rattle.hidden_locals.proofs.Crossing as X
use Rattle.hidden_locals.proofs.Flags.{crossed_continue, crossed_inner, crossed_outer, looped_value, uncrossed_value}
use Rattle.hidden_locals.proofs.Tests.{ValueSame, AllSame, CaseSame, tests_case, goes_as}
use Rattle.hidden_locals.proofs.Chains.{Chained, AreBranches, links_are_branches, default_is_branch, goes_lasting, chained_case, chained_end}

-- the Local of a level is small, hidden, and not the flag
pub record LevelFree (w : World) (plan : Plan) (k : ℕ) (level : ℕ) : Type 0 where
  pub small : nth plan.free level < 8
  pub other : nat_eq k (nth plan.free level) ≡ false
  pub hidden : shown_here w (nth plan.free level) ≡ false

-- A Continue inside loops of one turn has a flag that is low, and where the flag is used it is that of the plan.
pub record Allowed (plan : Plan) (k : ℕ) (inside low have crossed : Bool) : Type 0 where
  pub lowered : (inside && have) ≡ true → low ≡ true
  pub flagged : ((inside && have) || crossed) ≡ true → (k ≡ nth plan.free plan.levels) × (k < 8)

either_true : (a b : Bool) → b ≡ true → (a || b) ≡ true
either_true true b e = refl
either_true false b e = e

first_inside : (i a b : Bool) → (i && a) ≡ true → (i && (a || b)) ≡ true
first_inside true true b e = refl
first_inside true false b e = absurd (grind arith)
first_inside false a b e = absurd (grind arith)

rest_inside : (i a b : Bool) → (i && b) ≡ true → (i && (a || b)) ≡ true
rest_inside true a b e = either_true a b e
rest_inside false a b e = absurd (grind arith)

wider : (x y c d : Bool) → (x ≡ true → y ≡ true) → (c ≡ true → d ≡ true) → (x || c) ≡ true → (y || d) ≡ true
wider true y c d f g e = ap (λ y. y || d) (f refl)
wider false y c d f g e = either_true y d (g e)

first_true : (a b : Bool) → a ≡ true → (a || b) ≡ true
first_true true b e = refl
first_true false b e = absurd (grind arith)

module _ (plan : Plan) (k : ℕ) where
  allowed_first : (inside low a b c d : Bool) → Allowed plan k inside low (a || b) (c || d) → Allowed plan k inside low a c
  allowed_first inside low a b c d h =
      record { lowered = λ e. h.lowered (first_inside inside a b e); flagged = λ e. h.flagged (wider (inside && a) (inside && (a || b)) c (c || d) (first_inside inside a b) (first_true c d) e) }

  allowed_rest : (inside low a b c d : Bool) → Allowed plan k inside low (a || b) (c || d) → Allowed plan k inside low b d
  allowed_rest inside low a b c d h =
      record { lowered = λ e. h.lowered (rest_inside inside a b e); flagged = λ e. h.flagged (wider (inside && b) (inside && (a || b)) d (c || d) (rest_inside inside a b) (either_true c d) e) }

  allowed_loop : (inside low have c : Bool) → Allowed plan k inside low false c → Allowed plan k false low have c
  allowed_loop inside low have c h = record { lowered = λ e. absurd (grind arith); flagged = λ e. h.flagged (either_true (inside && false) c e) }

  allowed_crossed : (inside low have c : Bool) → have ≡ true → Allowed plan k inside low have (have || c) → Allowed plan k true true have c
  allowed_crossed inside low have c e h = record { lowered = λ u. refl; flagged = λ u. h.flagged (either_true (inside && have) (have || c) (first_true have c e)) }

  allowed_uncrossed : (inside low have c : Bool) → have ≡ false → Allowed plan k inside low have (have || c) → Allowed plan k true low have c
  allowed_uncrossed inside low true c e h = absurd (grind arith)
  allowed_uncrossed inside low false c e h = record { lowered = λ u. absurd (grind arith); flagged = λ u. h.flagged (either_true (inside && false) c u) }

fits_first : (level a b n : ℕ) → level + max a b ≤ n → level + a ≤ n
fits_first level a b n h = let g : a ≤ max a b = le-max_left a b in omega (arith, h, g)

fits_rest : (level a b n : ℕ) → level + max a b ≤ n → level + b ≤ n
fits_rest level a b n h = let g : b ≤ max a b = le-max_right a b in omega (arith, h, g)

-- what leaves a Switch
left_as : (f : Flow) → leave_switch {B = Trees} f ≡ done (past_break f)
left_as O.Continue = refl
left_as (O.Return v) = refl
left_as (Normal d) = refl
left_as (Gives v) = refl
left_as NoValue = refl
left_as O.Break = refl

-- a statement that is neither a Switch nor a Continue
abbrev IsOther : Tree → Type 0
IsOther (Switch value cases) = ⊥
IsOther Continue = ⊥
IsOther t = Unit {0}

abbrev NoBody : Trees → Type 0
NoBody body = ⊥

-- where no Else stands first, it does not matter whether one is due
module _ (width : Width) (known : Known) (turns : ℕ) (call : AbsolutePath → List Value → Run Trees Flow) (plan : Plan) where
  abbrev L : Trees → AbsolutePath → Bool → Run Trees Flow
  L = S.run_all width known turns call

  loop_free : (crossed inside : Bool) (value l : Tree) (chain rest : Trees) (scope : AbsolutePath) → L (loop_terms plan crossed inside (loop_of value l chain) rest) scope true ≡ L (loop_terms plan crossed inside (loop_of value l chain) rest) scope false
  loop_free false inside value l chain rest scope = refl
  loop_free true false value l chain rest scope = refl
  loop_free true true value l chain rest scope = refl

  continue_free : (inside : Bool) (rest : Trees) (scope : AbsolutePath) → L (continue_terms plan inside rest) scope true ≡ L (continue_terms plan inside rest) scope false
  continue_free false rest scope = refl
  continue_free true rest scope = refl

  due_free : (ts : Trees) → StartsNoElse ts → (level : ℕ) (inside : Bool) (scope : AbsolutePath) → L (unswitched_all plan level inside ts) scope true ≡ L (unswitched_all plan level inside ts) scope false
  due_free no_trees h level inside scope = refl
  due_free (tree (Else body) ts) h level inside scope = absurd h
  due_free (tree (ElseIf test body) ts) h level inside scope = absurd h
  due_free (tree (Switch value cases) ts) h level inside scope = loop_free (have_continue cases) inside value (value_local plan level) (opened (links plan level cases (default_link plan level cases))) (unswitched_all plan level inside ts) scope
  due_free (tree Continue ts) h level inside scope = continue_free inside (unswitched_all plan level inside ts) scope
  due_free (tree t ts) h level inside scope = refl

module _ (w : World) (shown : ℕ → Bool) (shows : AreShown shown w) (begun : AreBegun w w.running) (width : Width) (known : Known) (n : ℕ) (call call' : AbsolutePath → List Value → Run Trees Flow) (calls : CallAlike without_switches IsUnswitchable call call') (last : (path : AbsolutePath) (args : List Value)
    → Lasting (call path args)) (plan : Plan) (k : ℕ) (levels : (level : ℕ) → level < plan.levels → LevelFree w plan k level) where
  abbrev R : Tree → AbsolutePath → Bool → Run Trees Flow
  R = S.run width known (suc n) call

  abbrev R' : Tree → AbsolutePath → Bool → Run Trees Flow
  R' = S.run width known (suc n) call'

  abbrev A : Trees → AbsolutePath → Bool → Run Trees Flow
  A = S.run_all width known (suc n) call

  abbrev A' : Trees → AbsolutePath → Bool → Run Trees Flow
  A' = S.run_all width known (suc n) call'

  abbrev Cross : Bool → Bool → Run Trees Flow → Run Trees Flow → Type 0
  Cross inside low m m' = Crossed without_switches IsUnswitchable w k inside low m m'

  abbrev May : (inside low have crossed : Bool) → Type 0
  May = Allowed plan k

  -- a term that holds no method
  term_runs : (t : Tree) → HasNoMethod t → Shows shown (locals t) → (u : World) → Later w u → (scope : AbsolutePath) (due : Bool) → From without_switches IsUnswitchable Everywhere u ClearFlow (λ f. f) (R t scope due) (R' t scope due)
  term_runs t h s u later scope due =
      T.runs without_switches IsUnswitchable Everywhere NoBody (λ body e. absurd e) shown width known (suc n) call call' calls t (both NoBody (AnyBody shown) (λ i. true) shown t h (uses shown t s)) u (are_shown_later shown w u later shows) scope due

  leaf : (t : Tree) → has_continue t ≡ false → HasNoMethod t → Shows shown (locals t) → (inside low : Bool) (scope : AbsolutePath) (due : Bool) → Cross inside low (R t scope due) (R' t scope due)
  leaf t e h s inside low scope due =
      X.crossed_term without_switches IsUnswitchable w k inside low (from_lasting without_switches IsUnswitchable w (lasting width known (suc n) call last t e scope due) (term_runs t h s w (same_world w) scope due))

  tested : (t : Tree) → HasNoMethod t → Shows shown (locals t) → (scope : AbsolutePath) → From without_switches IsUnswitchable Everywhere w ClearFlow (λ f. f) (R t scope false) (R' t scope false)
  tested t h s scope = term_runs t h s w (same_world w) scope false

  -- values of both sides
  module _ (i : ℕ) (low : Bool) (v : Value) where
    value_same : (t : Tree) → HasNoMethod t → Shows shown (locals t) → (scope : AbsolutePath) → ValueSame without_switches IsUnswitchable w i k (FlagIs low) v width known (suc n) call call' t scope
    value_same t h s scope = λ u later. P.from_valued without_switches IsUnswitchable Everywhere u (term_runs t h s u later scope false)

    all_same : (ts : Trees) → UseShown NoBody (λ i. true) ts → Shows shown (locals_all ts) → (scope : AbsolutePath) → AllSame without_switches IsUnswitchable w i k (FlagIs low) v width known (suc n) call call' ts scope
    all_same no_trees h s scope = tt
    all_same (tree t ts) h s scope = (value_same t h.0 (shows_left shown (locals t) (locals_all ts) s) scope, all_same ts h.1 (shows_right shown (locals t) (locals_all ts) s) scope)

    case_same : (t : Tree) → HasNoMethod t → Shows shown (locals t) → (scope : AbsolutePath) → CaseSame without_switches IsUnswitchable w i k (FlagIs low) v width known (suc n) call call' t scope
    case_same (Package count members) h s scope = all_same members h s scope
    case_same (VarPackage count members) h s scope = all_same members h.1 (shows_right shown (locals count) (locals_all members) s) scope
    case_same t h s scope = value_same t h s scope

  abbrev Chain : (i : ℕ) (low : Bool) (v : Value) → Run Trees Flow → Run Trees Flow → Type 0
  Chain i low v = Chained without_switches IsUnswitchable w i k low v width known (suc n) call call'

  -- a Switch, and the statements behind it
  module _ (value : Tree) (cases rest : Trees) (level : ℕ) (scope : AbsolutePath) (due : Bool) (hv : HasNoMethod value) (sv : Shows shown (locals value)) (lt : level < plan.levels) where
    abbrev chain : Trees
    chain = opened (links plan level cases (default_link plan level cases))

    abbrev taken : ℕ
    taken = nth plan.free level

    abbrev with_value : Value → Run Trees Flow
    with_value v = S.run_cases width known (suc n) call cases v scope (S.run_default width known (suc n) call cases scope)

    abbrev turn : Tree
    turn = loop_of value (local taken) chain

    abbrev whole : Run Trees Flow
    whole = until_break (value_at width known (suc n) call value scope) with_value

    abbrev Does : Bool → Type 0
    Does low = (v : Value) → Chain taken low v (with_value v) (A' chain scope false)

    same_value : From without_switches IsUnswitchable Everywhere w Clear (λ v. v) (value_at width known (suc n) call value scope) (value_at width known (suc n) call' value scope)
    same_value = P.from_valued without_switches IsUnswitchable Everywhere w (tested value hv sv scope)

    whole_is : A (tree (Switch value cases) rest) scope due ≡ then_run whole (λ f. on_flow f (A rest scope))
    whole_is = ap (λ (leave : Flow → Run Trees Flow). then_run (then_run (value_at width known (suc n) call value scope) (λ v. then_run (with_value v) leave)) (λ f. on_flow f (A rest scope))) (fun_ext left_as)

    uncrossed : (inside low : Bool) (behind : Trees) → have_continue cases ≡ false → Does low → ((d : Bool) → Cross inside low (A rest scope d) (A' behind scope d)) → Cross inside low (then_run whole (λ f. on_flow f (A rest scope))) (A' (tree turn behind) scope due)
    uncrossed inside low behind e hc hr =
        let free = levels level lt in
        X.crossed_first without_switches IsUnswitchable w k inside low
        (uncrossed_value without_switches IsUnswitchable w k width known n call call' inside low taken value chain scope due free.small free.other begun free.hidden same_value with_value
        (λ v. goes_lasting without_switches IsUnswitchable (lasting_cases width known (suc n) call last cases e v scope (lasting_default width known (suc n) call last cases e scope)) (hc v))) hr

    abbrev Free : Trees → Type 0
    Free behind = A' behind scope true ≡ A' behind scope false

    looped : (due : Bool) → Does true → Looped without_switches IsUnswitchable w k whole (R' turn scope due)
    looped due hc = let free = levels level lt in looped_value without_switches IsUnswitchable w k width known n call call' taken value chain scope due free.small free.other begun free.hidden same_value with_value hc

    outer : (low : Bool) (behind : Trees) → (k ≡ nth plan.free plan.levels) × (k < 8) → Free behind → Does true → Cross false low (A rest scope false) (A' behind scope false) → Cross false low (then_run whole (λ f. on_flow f (A rest scope))) (A' (loop_terms plan true false turn behind) scope due)
    outer low behind fl free hc hr =
        subst (λ f. Cross false low (then_run whole (λ f. on_flow f (A rest scope))) (A' (tree (stored zero_word (local f)) (tree turn (tree (If (local f) (tree (stored zero_word (local f)) (tree Continue no_trees))) behind))) scope due)) fl.0
        (crossed_outer without_switches IsUnswitchable w k width known (suc n) call call' low whole turn rest behind scope due fl.1 free (looped false hc) hr)

    inner : (low : Bool) (behind : Trees) → low ≡ true → (k ≡ nth plan.free plan.levels) × (k < 8) → Free behind → Does true → Cross true low (A rest scope false) (A' behind scope false) → Cross true low (then_run whole (λ f. on_flow f (A rest scope))) (A' (loop_terms plan true true turn behind) scope due)
    inner false behind e fl free hc hr = absurd (grind arith)
    inner true behind e fl free hc hr =
        subst (λ f. Cross true true (then_run whole (λ f. on_flow f (A rest scope))) (A' (tree turn (tree (If (local f) (tree Break no_trees)) behind)) scope due)) fl.0
        (crossed_inner without_switches IsUnswitchable w k width known (suc n) call call' whole turn rest behind scope due free (looped due hc) hr)

    switched : (inside low : Bool) (behind : Trees) → May inside low (have_continue cases) (have_continue cases || are_crossed cases) → Free behind → ((low' : Bool) → May true low' (have_continue cases) (are_crossed cases) → Does low') → ((d : Bool) → Cross inside low (A rest scope d) (A' behind scope d)) →
        Cross inside low (A (tree (Switch value cases) rest) scope due) (A' (loop_terms plan (have_continue cases) inside turn behind) scope due)
    switched inside low behind may free hc hr = goes_as without_switches IsUnswitchable w taken k (FlagIs low) (Data (Integer 0)) width known (suc n) call call' whole_is (by_have (have_continue cases) refl inside may hr)
      where
        by_have : (have : Bool) → have_continue cases ≡ have → (inside : Bool) → May inside low (have_continue cases) (have_continue cases || are_crossed cases) → ((d : Bool) → Cross inside low (A rest scope d) (A' behind scope d)) → Cross inside low (then_run whole (λ f. on_flow f (A rest scope))) (A' (loop_terms plan have inside turn behind) scope due)
        by_have false e inside may hr = uncrossed inside low behind e (hc low (allowed_uncrossed plan k inside low (have_continue cases) (are_crossed cases) e may)) hr
        by_have true e false may hr =
            outer low behind (may.flagged (either_true (false && have_continue cases) (have_continue cases || are_crossed cases) (first_true (have_continue cases) (are_crossed cases) e))) free (hc true (allowed_crossed plan k false low (have_continue cases) (are_crossed cases) e may)) (hr false)
        by_have true e true may hr =
            inner low behind (may.lowered e) (may.flagged (either_true (true && have_continue cases) (have_continue cases || are_crossed cases) (first_true (have_continue cases) (are_crossed cases) e))) free (hc true (allowed_crossed plan k true low (have_continue cases) (are_crossed cases) e may)) (hr false)

  continued : (inside low c : Bool) (have : Bool) (rest behind : Trees) (scope : AbsolutePath) (due : Bool) → May inside low (true || have) c → Cross inside low (A (tree Continue rest) scope due) (A' (continue_terms plan inside behind) scope due)
  continued false low c have rest behind scope due may = X.crossed_outside without_switches IsUnswitchable w k low (P.same_flow without_switches IsUnswitchable Everywhere w O.Continue (λ u. tt))
  continued true low c have rest behind scope due may =
      let fl = may.flagged refl in
      subst (λ f. Cross true low (A (tree Continue rest) scope due) (A' (tree (stored one_word (local f)) (tree Break behind)) scope due)) fl.0
      (crossed_continue without_switches IsUnswitchable w k width known (suc n) call call' low rest behind scope due fl.1)

  abbrev turn_test : Run Trees Flow → Run Trees (Bool × Unit {0})
  turn_test m = then_run (S.size_by width known m) (λ n. done (is_true n, tt))

  loop_test : (test : Tree) → HasNoMethod test → Shows shown (locals test) → (scope : AbsolutePath) → From without_switches IsUnswitchable Everywhere w Any (λ b. b) (turn_test (R test scope false)) (turn_test (R' test scope false))
  loop_test test h s scope = from_then without_switches IsUnswitchable Everywhere w Any (λ b. b) _ (P.from_size without_switches IsUnswitchable Everywhere w width known (tested test h s scope)) (λ u after n p. P.same_any without_switches IsUnswitchable Everywhere u (is_true n, tt))

  mutual
    term : (t : Tree) → IsOther t → IsStatement t → Shows shown (locals t) → (level : ℕ) → level + depth t ≤ plan.levels → (inside low : Bool) → May inside low (has_continue t) (is_crossed t) → (scope : AbsolutePath) (due : Bool) → Cross inside low (R t scope due) (R' (unswitched plan level inside t) scope due)
    term (If test body) o h s level fits inside low may scope due =
        X.crossed_branch without_switches IsUnswitchable w k inside low width known (tested test h.0 (shows_left shown (locals test) (locals_all body) s) scope) (lists body h.1 (shows_right shown (locals test) (locals_all body) s) level fits inside low may scope false)
    term (ElseIf test body) o h s level fits inside low may scope due =
        X.crossed_if without_switches IsUnswitchable w k inside low due
        (X.crossed_branch without_switches IsUnswitchable w k inside low width known (tested test h.0 (shows_left shown (locals test) (locals_all body) s) scope) (lists body h.1 (shows_right shown (locals test) (locals_all body) s) level fits inside low may scope false))
        (X.crossed_end without_switches IsUnswitchable w k inside low)
    term (Else body) o h s level fits inside low may scope due =
        X.crossed_if without_switches IsUnswitchable w k inside low due (lists body h s level fits inside low may scope false) (X.crossed_end without_switches IsUnswitchable w k inside low)
    term (While test body) o h s level fits inside low may scope due =
        X.crossed_loop without_switches IsUnswitchable w k inside low (suc n) _ _ _ _ (loop_test test h.0 (shows_left shown (locals test) (locals_all body) s) scope)
        (lists body h.1 (shows_right shown (locals test) (locals_all body) s) level fits false low (allowed_loop plan k inside low (have_continue body) (are_crossed body) may) scope false)
    term (Container' kind at name body) o h s level fits inside low may scope due =
        X.crossed_tested without_switches IsUnswitchable w k inside low (from_create without_switches IsUnswitchable Everywhere w (declared_path name scope) (ContainerObject kind) (λ u after. tt)) (λ u. lists body h s level fits inside low may (declared_path name scope) false)
    term (Scope here at name body) o h s level fits inside low may scope due = X.crossed_tested without_switches IsUnswitchable w k inside low (P.from_find without_switches IsUnswitchable Everywhere w known name scope) (λ path. lists body h s level fits inside low may path false)
    term (Method at name flags body) o h s level fits inside low may scope due =
        X.crossed_tested without_switches IsUnswitchable w k inside low (from_create without_switches IsUnswitchable Everywhere w (declared_path name scope) (MethodObject flags) (λ u after. tt))
        (λ u. X.crossed_tested without_switches IsUnswitchable w k inside low (from_keep without_switches IsUnswitchable Everywhere w (declared_path name scope) body h) (λ u. X.crossed_end without_switches IsUnswitchable w k inside low))
    term (Switch value cases) o h s level fits inside low may scope due = absurd o
    term Continue o h s level fits inside low may scope due = absurd o
    term (Case value body) o h s level fits inside low may scope due = absurd h
    term (Default body) o h s level fits inside low may scope due = absurd h
    term t o h s level fits inside low may scope due = leaf t refl h s inside low scope due

    chains : (cases : Trees) → AreCases cases → Shows shown (locals_all cases) → (level : ℕ) → suc level + depth_all cases ≤ plan.levels → (low : Bool) → May true low (have_continue cases) (are_crossed cases) → (v : Value) (scope : AbsolutePath) (otherwise : Run Trees Flow) (default : Trees) → AreBranches default → Chain (nth plan.free level) low v otherwise (A' (opened default) scope false) →
        Chain (nth plan.free level) low v (S.run_cases width known (suc n) call cases v scope otherwise) (A' (opened (links plan level cases default)) scope false)
    chains no_trees h s level fits low may v scope otherwise default b o = o
    chains (tree (Case value body) cases) h s level fits low may v scope otherwise default b o =
        let own = shows_left shown (locals (Case value body)) (locals_all cases) s in
        chained_case without_switches IsUnswitchable w (nth plan.free level) k low v width known (suc n) call call' (S.hits width known (suc n) call value (S.equals width known v (value_at width known (suc n) call value scope)) v scope) (S.run_cases width known (suc n) call cases v scope otherwise)
        (case_test (local (nth plan.free level)) value) body (unswitched_all plan (suc level) true body) (links plan level cases default) (links_are_branches plan level cases default b) scope
        (tests_case without_switches IsUnswitchable w (nth plan.free level) k (FlagIs low) v width known (suc n) call call' value scope (case_same (nth plan.free level) low v value h.0 (shows_left shown (locals value) (locals_all body) own) scope))
        (lists body h.1 (shows_right shown (locals value) (locals_all body) own) (suc level) (fits_first (suc level) (depth_all body) (depth_all cases) plan.levels fits) true low (allowed_first plan k true low (have_continue body) (have_continue cases) (are_crossed body) (are_crossed cases) may) scope false)
        (chains cases h.2 (shows_right shown (locals (Case value body)) (locals_all cases) s) level (fits_rest (suc level) (depth_all body) (depth_all cases) plan.levels fits) low (allowed_rest plan k true low (have_continue body) (have_continue cases) (are_crossed body) (are_crossed cases) may) v scope otherwise default b o)
    chains (tree (Default body) cases) h s level fits low may v scope otherwise default b o =
        chains cases h.1 (shows_right shown (locals_all body) (locals_all cases) s) level (fits_rest (suc level) (depth_all body) (depth_all cases) plan.levels fits) low (allowed_rest plan k true low (have_continue body) (have_continue cases) (are_crossed body) (are_crossed cases) may) v scope otherwise default b o
    chains (tree t cases) h s level fits low may v scope otherwise default b o = absurd h

    defaults : (cases : Trees) → AreCases cases → Shows shown (locals_all cases) → (level : ℕ) → suc level + depth_all cases ≤ plan.levels → (low : Bool) → May true low (have_continue cases) (are_crossed cases) → (v : Value) (scope : AbsolutePath) →
        Chain (nth plan.free level) low v (S.run_default width known (suc n) call cases scope) (A' (opened (default_link plan level cases)) scope false)
    defaults no_trees h s level fits low may v scope = chained_end without_switches IsUnswitchable w (nth plan.free level) k low v width known (suc n) call call'
    defaults (tree (Default body) cases) h s level fits low may v scope =
        goes_so without_switches IsUnswitchable (λ j p. p.other) (λ t f p. p)
        (lists body h.0 (shows_left shown (locals_all body) (locals_all cases) s) (suc level) (fits_first (suc level) (depth_all body) (depth_all cases) plan.levels fits) true low (allowed_first plan k true low (have_continue body) (have_continue cases) (are_crossed body) (are_crossed cases) may) scope false)
    defaults (tree (Case value body) cases) h s level fits low may v scope =
        defaults cases h.2 (shows_right shown (locals (Case value body)) (locals_all cases) s) level (fits_rest (suc level) (depth_all body) (depth_all cases) plan.levels fits) low (allowed_rest plan k true low (have_continue body) (have_continue cases) (are_crossed body) (are_crossed cases) may) v scope
    defaults (tree t cases) h s level fits low may v scope = absurd h

    pub lists : (ts : Trees) → AreStatements ts → Shows shown (locals_all ts) → (level : ℕ) → level + depth_all ts ≤ plan.levels → (inside low : Bool) → May inside low (have_continue ts) (are_crossed ts) → (scope : AbsolutePath) (due : Bool) → Cross inside low (A ts scope due) (A' (unswitched_all plan level inside ts) scope due)
    lists no_trees h s level fits inside low may scope due = X.crossed_end without_switches IsUnswitchable w k inside low
    lists (tree (Switch value cases) rest) h s level fits inside low may scope due =
        let own = shows_left shown (locals (Switch value cases)) (locals_all rest) s in
        let within : suc level + depth_all cases ≤ plan.levels = let g : level + suc (depth_all cases) ≤ plan.levels = fits_first level (suc (depth_all cases)) (depth_all rest) plan.levels fits in omega (arith, g) in
        switched value cases rest level scope due h.0.0 (shows_left shown (locals value) (locals_all cases) own) (omega (arith, within)) inside low (unswitched_all plan level inside rest)
        (allowed_first plan k inside low (have_continue cases) (have_continue rest) (have_continue cases || are_crossed cases) (are_crossed rest) may)
        (due_free width known (suc n) call' plan rest h.1 level inside scope)
        (λ low' may' v. chains cases h.0.1 (shows_right shown (locals value) (locals_all cases) own) level within low' may' v scope (S.run_default width known (suc n) call cases scope) (default_link plan level cases) (default_is_branch plan level cases) (defaults cases h.0.1 (shows_right shown (locals value) (locals_all cases) own) level within low' may' v scope))
        (λ d. lists rest h.2 (shows_right shown (locals (Switch value cases)) (locals_all rest) s) level (fits_rest level (suc (depth_all cases)) (depth_all rest) plan.levels fits) inside low (allowed_rest plan k inside low (have_continue cases) (have_continue rest) (have_continue cases || are_crossed cases) (are_crossed rest) may) scope d)
    lists (tree Continue rest) h s level fits inside low may scope due = continued inside low (are_crossed rest) (have_continue rest) rest (unswitched_all plan level inside rest) scope due may
    lists (tree t rest) h s level fits inside low may scope due =
        X.crossed_first without_switches IsUnswitchable w k inside low
        (term t tt h.0 (shows_left shown (locals t) (locals_all rest) s) level (fits_first level (depth t) (depth_all rest) plan.levels fits) inside low (allowed_first plan k inside low (has_continue t) (have_continue rest) (is_crossed t) (are_crossed rest) may) scope due)
        (λ d. lists rest h.2 (shows_right shown (locals t) (locals_all rest) s) level (fits_rest level (depth t) (depth_all rest) plan.levels fits) inside low (allowed_rest plan k inside low (has_continue t) (have_continue rest) (is_crossed t) (are_crossed rest) may) scope d)
