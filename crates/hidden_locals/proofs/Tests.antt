-- The tests of a value that a hidden Local keeps do what the comparisons of a Switch's value do.
use Rattle.std.proofs.Common.{◌≡◌, ℕ, Bool, true, false, List, [], ◌∷◌, Option, Some, refl, sym, ap, ◌∙◌, subst}
use Rattle.std.proofs.Math.Path.{fun_ext}
use Rattle.std.specs.Prelude.{◌||◌, Ok, Err}
use Rattle.std.specs.Prelude as P
use Rattle.acpi_values.specs.declared.width.Width.{Width}
use Rattle.acpi_values.specs.declared.width.Width.TheVariants.{W32, W64}
use Rattle.acpi_values.specs.declared.operator.Plain.{Plain}
use Rattle.acpi_values.specs.declared.operator.IntOp.TheVariants as IntOp
use Rattle.acpi_values.specs.Paths.{AbsolutePath}
use Rattle.acpi_values.specs.declared.fault.Fault.{Fault}
use Rattle.acpi_values.specs.Values.{Datum, Value, Data, Integer}
use Rattle.acpi_values.specs.Conversions.{to_kind_of}
use Rattle.acpi_values.specs.Operators.{Valued}
use Rattle.acpi_values.specs.Integers.{truth}
use Rattle.acpi_state.specs.State.{Store, State}
use Rattle.acpi_state.specs.Objects.{Names}
use Rattle.acpi_state.specs.Outcomes.{Flow, Normal, Gives, NoValue, Break, Continue, Return, Result, Done, Stopped, map_result, Outcome, Run, Step, Steps, Fails, Waits, Action, step_result, done, next, then_run, act, value_of}
use Rattle.acpi_state.specs.Actions.{give, computed, go_on, and_then}
use Rattle.acpi_state.specs.Acts.{Operand, OfValue, data_of, number_of, give_number, order_of, is_equal, compared, act_of, last_of}
use Rattle.acpi_state.specs.Loops.{is_true}
use Rattle.asl_tree.specs.Names.{Known}
use Rattle.asl_tree.specs.Tree.{Tree, Apply, Package, VarPackage, Trees, no_trees, tree}
use Rattle.asl_meaning.specs.Meaning as S
use Rattle.hidden_locals.specs.Worlds.{World, Clear, Later}
use Rattle.hidden_locals.specs.Runs.{Veiled, Everywhere, right, From}
use Rattle.hidden_locals.specs.Steps.{local_in, Taken, EndsAt, Goes}
use Rattle.hidden_locals.specs.Crossing.{value_at}
use Rattle.hidden_locals.specs.Turns.{local, equal, joined, test_of}
use Rattle.hidden_locals.specs.Switches.{case_test}
use Rattle.hidden_locals.proofs.Worlds.{same_world, later_then}
use Rattle.hidden_locals.proofs.Runs.{Any}
use Rattle.hidden_locals.proofs.Parts.{from_equals}
use Rattle.hidden_locals.proofs.Taken.{local_runs}
use Rattle.hidden_locals.proofs.Steps.{goes_taken, goes_then, goes_so, goes_to, goes_done}

-- a truth as a value
abbrev pub truth_flow : Width → Bool → Flow
truth_flow width b = Gives (Data (Integer (truth width b)))

pub truth_is : (width : Width) (b : Bool) → is_true (truth width b) ≡ b
truth_is W32 true = refl
truth_is W32 false = refl
truth_is W64 true = refl
truth_is W64 false = refl

-- what is given is a truth
record IsTruth (width : Width) (rs : List Value) : Type 0 where
  b : Bool
  is : rs ≡ Data (Integer (truth width b)) ∷ []

abbrev Truthful : Width → Step (List Value) → Type 0
Truthful width (Steps rs) = IsTruth width rs
Truthful width (Fails f) = Unit {0}
Truthful width Waits = Unit {0}

record IsTested (width : Width) (f : Flow) : Type 0 where
  b : Bool
  is : f ≡ truth_flow width b

abbrev Tested : Width → Result Flow → Type 0
Tested width (Done f) = IsTested width f
Tested width (Stopped x) = Unit {0}

-- a comparison gives a truth, or a fault
module _ (width : Width) where
  by_kind : (a : Datum) (r : P.Result Datum Fault) (names : Names) (s : Store) → Truthful width (and_then (and_then (computed r) (λ b. give (order_of a b))) (λ order. give_number (truth width (is_equal order))) names s).0
  by_kind a (Ok b) names s = record { b = is_equal (order_of a b); is = refl }
  by_kind a (Err f) names s = tt

  abbrev with_first : Value → Datum → Action (List Value)
  with_first x a = and_then (data_of width x) (λ b. and_then (compared width a b) (λ order. give_number (truth width (is_equal order))))

  by_second : (a : Datum) (r : Step Datum) (names : Names) (s : Store) → Truthful width (go_on r (λ b. and_then (compared width a b) (λ order. give_number (truth width (is_equal order)))) names s).0
  by_second a (Steps b) names s = by_kind a (to_kind_of width a b) names s
  by_second a (Fails f) names s = tt
  by_second a Waits names s = tt

  by_first : (x : Value) (r : Step Datum) (names : Names) (s : Store) → Truthful width (go_on r (with_first x) names s).0
  by_first x (Steps a) names s = by_second a (data_of width x names s).0 names (data_of width x names s).1
  by_first x (Fails f) names s = tt
  by_first x Waits names s = tt

  equal_truthful : (v x : Value) (names : Names) (s : Store) → Truthful width (act_of (Plain.Number IntOp.LEqual) width (OfValue v ∷ OfValue x ∷ []) names s).0
  equal_truthful v x names s = by_first x (data_of width v names s).0 names (data_of width v names s).1

  -- no target takes a result
  abbrev untargeted : List Value → Run Trees (Unit {0})
  untargeted rs = done tt

  abbrev LEqual : Run Trees (List Operand) → Run Trees Flow
  LEqual ops = S.apply_with width (Plain.Number IntOp.LEqual) ops untargeted

  abbrev compare_with : Value → Run Trees Value → Run Trees Flow
  compare_with v m = LEqual (S.two_values (done v) m)

  -- so it is its truth as a value
  abbrev again_as : Known → Outcome Trees Flow → Outcome Trees Flow
  again_as known o =
      let a = next o.result o.state value_of in
      let n = next a.result a.state (λ v. act (number_of width v)) in
      let b = next n.result n.state (λ n. done (is_true n)) in
      next b.result b.state (λ b. done (truth_flow width b))

  same_again : (known : Known) (r : Result Flow) (s : State Trees) → Tested width r → record { result = r; state = s } ≡ again_as known (record { result = r; state = s })
  same_again known (Stopped x) s h = refl
  same_again known (Done f) s h = sym (ap (λ f. again_as known (record { result = Done f; state = s })) h.is ∙ (ap (λ b. record { result = Done (truth_flow width b); state = s }) (truth_is width h.b) ∙ ap (λ f. record { result = Done f; state = s }) (sym h.is)))

  given_tested : (r : Step (List Value)) (t : State Trees) → Truthful width r → Tested width (next (step_result r) t (λ rs. then_run (untargeted rs) (λ u. done (last_of rs)))).result
  given_tested (Steps rs) t h = record { b = h.b; is = ap last_of h.is }
  given_tested (Fails f) t h = tt
  given_tested Waits t h = tt

  compared_tested : (v : Value) (m : Run Trees Value) (s : State Trees) → Tested width (compare_with v m s).result
  compared_tested v m s = by_value (m s).result (m s).state
    where
      by_value : (r : Result Value) (t : State Trees) → Tested width (let c = next r t (λ x. done (OfValue v ∷ OfValue x ∷ [])) in next c.result c.state (λ os. then_run (act (act_of (Plain.Number IntOp.LEqual) width os)) (λ rs. then_run (untargeted rs) (λ u. done (last_of rs))))).result
      by_value (Done x) t = let c = act_of (Plain.Number IntOp.LEqual) width (OfValue v ∷ OfValue x ∷ []) t.names t.store in given_tested c.0 (record t { store = c.1 }) (equal_truthful v x t.names t.store)
      by_value (Stopped x) t = tt

  pub compared_as : (known : Known) (v : Value) (m : Run Trees Value) (s : State Trees) → compare_with v m s ≡ then_run (S.equals width known v m) (λ b. done (truth_flow width b)) s
  compared_as known v m s = same_again known (compare_with v m s).result (compare_with v m s).state (compared_tested v m s)

-- a value that is kept, read again
module _ (width : Width) (known : Known) (turns : ℕ) (call : AbsolutePath → List Value → Run Trees Flow) where
  abbrev R : Tree → AbsolutePath → Bool → Run Trees Flow
  R = S.run width known turns call

  abbrev V : Tree → AbsolutePath → Run Trees Value
  V t scope = value_at width known turns call t scope

  abbrev with_operands : Plain → Outcome Trees (List Operand) → Outcome Trees Flow
  with_operands op o = next o.result o.state (λ os. then_run (act (act_of op width os)) (λ rs. then_run (S.store_all width known turns call no_trees rs []) (λ u. done (last_of rs))))

  -- the second operand
  abbrev second_of : Value → Outcome Trees Value → Outcome Trees (List Operand)
  second_of v o =
      let b = next o.result o.state (λ x. done (OfValue x)) in
      let c = next b.result b.state (λ o. then_run (done []) (λ os. done (o ∷ os))) in
      next c.result c.state (λ os. done (OfValue v ∷ os))

  second_is : (v : Value) (r : Result Value) (t : State Trees) → second_of v (record { result = r; state = t }) ≡ next r t (λ x. done (OfValue v ∷ OfValue x ∷ []))
  second_is v (Done x) t = refl
  second_is v (Stopped x) t = refl

  -- what follows the first one
  abbrev after_first : Plain → Tree → AbsolutePath → Outcome Trees Flow → Outcome Trees Flow
  after_first op other scope o =
      let a = next o.result o.state value_of in
      let b = next a.result a.state (λ v. done (OfValue v)) in
      let c = next b.result b.state (λ o. then_run (S.operands width known turns call (Valued ∷ []) (tree other no_trees) scope) (λ os. done (o ∷ os))) in
      with_operands op c

  equal_runs : (i : ℕ) (v : Value) (member : Tree) (scope : AbsolutePath) (due : Bool) (s : State Trees) → local_in s.store.frames i ≡ Some v → R (equal (local i) member) scope due s ≡ compare_with width v (V member scope) s
  equal_runs i v member scope due s held =
      ap (after_first (Plain.Number IntOp.LEqual) member scope) (local_runs width known turns call i v s held scope false)
      ∙ ap (with_operands (Plain.Number IntOp.LEqual)) (second_is v (V member scope s).result (V member scope s).state)

  pub tested_equal : (i : ℕ) (v : Value) (member : Tree) (scope : AbsolutePath) (due : Bool) (s : State Trees) → local_in s.store.frames i ≡ Some v → R (equal (local i) member) scope due s ≡ then_run (S.equals width known v (V member scope)) (λ b. done (truth_flow width b)) s
  tested_equal i v member scope due s held = equal_runs i v member scope due s held ∙ compared_as width known v (V member scope) s

  -- LOr of two terms
  abbrev or_second : Value → Flow → Run Trees Flow
  or_second a g = then_run (value_of g) (λ b. then_run (act (act_of (Plain.Number IntOp.LOr) width (OfValue a ∷ OfValue b ∷ []))) (λ rs. done (last_of rs)))

  abbrev or_first : Tree → AbsolutePath → Flow → Run Trees Flow
  or_first other scope f = then_run (value_of f) (λ a. then_run (R other scope false) (or_second a))

  abbrev either : Tree → Tree → Tree
  either test other = Apply (Plain.Number IntOp.LOr) (tree test (tree other no_trees)) no_trees

  or_runs : (test other : Tree) (scope : AbsolutePath) (due : Bool) (s : State Trees) → R (either test other) scope due s ≡ then_run (R test scope false) (or_first other scope) s
  or_runs test other scope due s = by_test (R test scope false s).result (R test scope false s).state
    where
      by_other : (a : Value) (r : Result Flow) (t : State Trees) →
          with_operands (Plain.Number IntOp.LOr) (second_of a (next r t value_of)) ≡ next r t (or_second a)
      by_other a (Stopped x) t = refl
      by_other a (Done (Gives b)) t = refl
      by_other a (Done (Normal d)) t = refl
      by_other a (Done NoValue) t = refl
      by_other a (Done Break) t = refl
      by_other a (Done Continue) t = refl
      by_other a (Done (Return v)) t = refl

      by_test : (r : Result Flow) (t : State Trees) → after_first (Plain.Number IntOp.LOr) other scope (record { result = r; state = t }) ≡ next r t (or_first other scope)
      by_test (Stopped x) t = refl
      by_test (Done (Gives a)) t = by_other a (R other scope false t).result (R other scope false t).state
      by_test (Done (Normal d)) t = refl
      by_test (Done NoValue) t = refl
      by_test (Done Break) t = refl
      by_test (Done Continue) t = refl
      by_test (Done (Return v)) t = refl

  or_truths : (a b : Bool) (s : State Trees) → or_second (Data (Integer (truth width a))) (truth_flow width b) s ≡ done (truth_flow width (a || b)) s
  or_truths a b s = by_width width a b
    where
      by_width : (width : Width) (a b : Bool) → then_run (act (act_of (Plain.Number IntOp.LOr) width (OfValue (Data (Integer (truth width a))) ∷ OfValue (Data (Integer (truth width b))) ∷ []))) (λ rs. done (last_of rs)) s ≡ done (truth_flow width (a || b)) s
      by_width W32 true true = refl
      by_width W32 true false = refl
      by_width W32 false true = refl
      by_width W32 false false = refl
      by_width W64 true true = refl
      by_width W64 true false = refl
      by_width W64 false true = refl
      by_width W64 false false = refl

-- comparisons of one side, and tests of the other
module _ (convert : Trees → Trees) (IsKept : Trees → Type 0) (w : World) (i k : ℕ) (H : Option Value → Type 0) (v : Value) (width : Width) (known : Known) (turns : ℕ) (call call' : AbsolutePath → List Value → Run Trees Flow) where
  abbrev pub Kept : Veiled → Type 0
  Kept t = Taken w i k H t v

  abbrev pub Tests : Run Trees Bool → Run Trees Flow → Type 0
  Tests m m' = Goes convert IsKept Kept (λ t b. Kept t) (truth_flow width) m m'

  -- runs that keep all that is hidden, where the value is clear
  pub goes_kept : {A C : Type 0} {P : World → A → Type 0} {c : A → C} {m : Run Trees A} {m' : Run Trees C} → ((u : World) → Later w u → Clear u v → From convert IsKept Everywhere u P c m m') → Goes convert IsKept Kept (λ t a. Kept t × P t.world a) c m m'
  goes_kept {A} {P = P} h = record {
    by = λ j fine taken.
        let e = (goes_taken convert IsKept j.world i k H v (h j.world taken.other.later taken.clear)).by j fine (record { clear = taken.clear; hidden = taken.hidden; holds = taken.holds; other = record { later = same_world j.world; hidden = taken.other.hidden; holds = taken.other.holds } }) in
        record { result = e.result; end = e.end; later = e.later; fine = e.fine; holds = back j taken.other.later e.result e.end e.holds; keeps = e.keeps; left_is = e.left_is; right_is = e.right_is };
  }
    where
      back : (j : Veiled) → Later w j.world → (r : Result A) (t : Veiled) → EndsAt convert IsKept (λ t a. Taken j.world i k H t v × P t.world a) r t → EndsAt convert IsKept (λ t a. Kept t × P t.world a) r t
      back j later (Done a) t p = (record { clear = p.0.clear; hidden = p.0.hidden; holds = p.0.holds; other = record { later = later_then w j.world t.world later p.0.other.later; hidden = p.0.other.hidden; holds = p.0.other.holds } }, p.1)
      back j later (Stopped x) t p = tt

  abbrev pub ValueSame : Tree → AbsolutePath → Type 0
  ValueSame t scope = (u : World) → Later w u → From convert IsKept Everywhere u Clear (λ v. v) (value_at width known turns call t scope) (value_at width known turns call' t scope)

  abbrev compared_by : (AbsolutePath → List Value → Run Trees Flow) → Tree → AbsolutePath → Run Trees Bool
  compared_by call t scope = S.equals width known v (value_at width known turns call t scope)

  truth_last : (r : Result Bool) (t : State Trees) → next (map_result (λ b. b) r) t (λ b. done (truth_flow width b)) ≡ record { result = map_result (truth_flow width) r; state = t }
  truth_last (Done b) t = refl
  truth_last (Stopped x) t = refl

  pub tests_equal : (member : Tree) (scope : AbsolutePath) (due : Bool) → ValueSame member scope → Tests (compared_by call member scope) (S.run width known turns call' (equal (local i) member) scope due)
  tests_equal member scope due h = record {
    by = λ j fine taken.
        let e = (goes_so convert IsKept (λ j p. p) (λ t a p. p.0) (goes_kept {P = Any} (λ u later clear. from_equals convert IsKept Everywhere u width known v clear (h u later)))).by j fine taken in
        record {
          result = e.result;
          end = e.end;
          later = e.later;
          fine = e.fine;
          holds = e.holds;
          keeps = e.keeps;
          left_is = e.left_is;
          right_is = tested_equal width known turns call' i v member scope due (right convert IsKept j) taken.holds ∙ (ap (λ (o : Outcome Trees Bool). next o.result o.state (λ b. done (truth_flow width b))) e.right_is ∙ truth_last e.result (right convert IsKept e.end));
        };
  }

  -- the same run on the one side
  pub goes_as : {A C : Type 0} {Before : Veiled → Type 0} {After : Veiled → A → Type 0} {c : A → C} {m m'' : Run Trees A} {m' : Run Trees C} → m ≡ m'' → Goes convert IsKept Before After c m'' m' → Goes convert IsKept Before After c m m'
  goes_as {Before = Before} {After = After} {c = c} {m' = m'} e h = subst (λ x. Goes convert IsKept Before After c x m') (sym e) h

  tests_or : (test member : Tree) (m : Run Trees Bool) (scope : AbsolutePath) (due : Bool) → Tests m (S.run width known turns call' test scope false) → ValueSame member scope →
      Tests (then_run m (λ a. then_run (compared_by call member scope) (λ b. done (a || b)))) (S.run width known turns call' (either width known turns call' test (equal (local i) member)) scope due)
  tests_or test member m scope due hm h =
      goes_to convert IsKept (fun_ext (λ s. or_runs width known turns call' test (equal (local i) member) scope due s))
      (goes_then convert IsKept (λ t b. Kept t) (truth_flow width) (or_first width known turns call' (equal (local i) member) scope) hm
      (λ a. goes_then convert IsKept (λ t b. Kept t) (truth_flow width) (or_second width known turns call' (Data (Integer (truth width a)))) (tests_equal member scope false h)
      (λ b. goes_to convert IsKept (fun_ext (λ s. or_truths width known turns call' a b s)) (goes_done convert IsKept Kept (λ t b. Kept t) (truth_flow width) (a || b) (λ j p. p)))))

  abbrev any_of : Trees → AbsolutePath → Run Trees Bool
  any_of ts scope = S.hits_any width known turns call ts v scope

  or_false : (m : Run Trees Bool) (s : State Trees) → then_run m (λ first. then_run (done false) (λ others. done (first || others))) s ≡ m s
  or_false m s = by_result (m s).result (m s).state
    where
      by_result : (r : Result Bool) (t : State Trees) → next r t (λ first. then_run (done false) (λ others. done (first || others))) ≡ record { result = r; state = t }
      by_result (Done true) t = refl
      by_result (Done false) t = refl
      by_result (Stopped x) t = refl

  or_assoc : (a b c : Bool) → (a || (b || c)) ≡ ((a || b) || c)
  or_assoc true b c = refl
  or_assoc false b c = refl

  -- a comparison more before the others
  or_more : (m : Run Trees Bool) (n : Run Trees Bool) (others : Run Trees Bool) (s : State Trees) → then_run m (λ first. then_run (then_run n (λ b. then_run others (λ c. done (b || c)))) (λ c. done (first || c))) s ≡ then_run (then_run m (λ a. then_run n (λ b. done (a || b)))) (λ first. then_run others (λ c. done (first || c))) s
  or_more m n others s = by_first (m s).result (m s).state
    where
      by_others : (a b : Bool) (r : Result Bool) (t : State Trees) → (let o = next r t (λ c. done (b || c)) in next o.result o.state (λ c. done (a || c))) ≡ next r t (λ c. done ((a || b) || c))
      by_others a b (Done c) t = ap (λ b. record { result = Done b; state = t }) (or_assoc a b c)
      by_others a b (Stopped x) t = refl

      by_next : (a : Bool) (r : Result Bool) (t : State Trees) → (let o = next r t (λ b. then_run others (λ c. done (b || c))) in next o.result o.state (λ c. done (a || c))) ≡ (let o = next r t (λ b. done (a || b)) in next o.result o.state (λ first. then_run others (λ c. done (first || c))))
      by_next a (Done b) t = by_others a b (others t).result (others t).state
      by_next a (Stopped x) t = refl

      by_first : (r : Result Bool) (t : State Trees) → next r t (λ first. then_run (then_run n (λ b. then_run others (λ c. done (b || c)))) (λ c. done (first || c))) ≡ (let o = next r t (λ a. then_run n (λ b. done (a || b))) in next o.result o.state (λ first. then_run others (λ c. done (first || c))))
      by_first (Done a) t = by_next a (n t).result (n t).state
      by_first (Stopped x) t = refl

  abbrev pub AllSame : Trees → AbsolutePath → Type 0
  AllSame no_trees scope = Unit {0}
  AllSame (tree t ts) scope = ValueSame t scope × AllSame ts scope

  tests_joined : (members : Trees) (test : Tree) (m : Run Trees Bool) (scope : AbsolutePath) → AllSame members scope → Tests m (S.run width known turns call' test scope false) →
      Tests (then_run m (λ first. then_run (any_of members scope) (λ others. done (first || others)))) (S.run width known turns call' (joined test (local i) members) scope false)
  tests_joined no_trees test m scope h hm = goes_as (fun_ext (λ s. or_false m s)) hm
  tests_joined (tree t ts) test m scope h hm =
      goes_as (fun_ext (λ s. or_more m (compared_by call t scope) (any_of ts scope) s))
      (tests_joined ts (either width known turns call' test (equal (local i) t)) (then_run m (λ a. then_run (compared_by call t scope) (λ b. done (a || b)))) scope h.1 (tests_or test t m scope false hm h.0))

  pub tests_any : (members : Trees) (scope : AbsolutePath) → AllSame members scope → Tests (any_of members scope) (S.run width known turns call' (test_of (local i) members) scope false)
  tests_any no_trees scope h = goes_to convert IsKept (fun_ext (λ s. none width s)) (goes_done convert IsKept Kept (λ t b. Kept t) (truth_flow width) false (λ j p. p))
    where
      none : (width : Width) (s : State Trees) → done (Gives (Data (Integer 0))) s ≡ done (truth_flow width false) s
      none W32 s = refl
      none W64 s = refl
  tests_any (tree t ts) scope h = tests_joined ts (equal (local i) t) (compared_by call t scope) scope h.1 (tests_equal t scope false h.0)

  -- what is tested of a Case
  abbrev pub CaseSame : Tree → AbsolutePath → Type 0
  CaseSame (Package count members) scope = AllSame members scope
  CaseSame (VarPackage count members) scope = AllSame members scope
  CaseSame value scope = ValueSame value scope

  pub tests_case : (value : Tree) (scope : AbsolutePath) → CaseSame value scope → Tests (S.hits width known turns call value (compared_by call value scope) v scope) (S.run width known turns call' (case_test (local i) value) scope false)
  tests_case (Package count members) scope h = tests_any members scope h
  tests_case (VarPackage count members) scope h = tests_any members scope h
  tests_case value scope h = tests_equal value scope false h
