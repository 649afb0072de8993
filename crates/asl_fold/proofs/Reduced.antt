-- What an operator becomes does what the operator does.
use Rattle.std.proofs.Common.{◌≡◌, ℕ, zero, suc, ◌%◌, ◌≤◌, Bool, true, false, List, [], ◌∷◌, Option, Some, None, refl, sym, ap, ◌∙◌, arith}
use Rattle.std.proofs.Math.Path.{fun_ext}
use Rattle.std.proofs.lemmas.Bool.Decides.{nat_tests}
use Rattle.std.specs.Prelude.{if◌then◌else◌, nat_le, Ok}
use Rattle.acpi_values.specs.declared.width.Width.{Width}
use Rattle.acpi_values.specs.declared.width.Width.TheVariants.{W32, W64}
use Rattle.acpi_values.specs.declared.operator.IntOp.{IntOp}
use Rattle.acpi_values.specs.declared.operator.DataOp.TheVariants as DataOp
use Rattle.acpi_values.specs.declared.operator.Plain.{Plain}
use Rattle.acpi_values.specs.Integers.{wrapped, applied}
use Rattle.acpi_values.specs.Widths.{ones_of}
use Rattle.acpi_values.specs.Operators.{Letter, row_of}
use Rattle.acpi_values.specs.Paths.{AbsolutePath}
use Rattle.acpi_values.specs.Values.{Value, LocalOf}
use Rattle.acpi_state.specs.State.{State, Store}
use Rattle.acpi_state.specs.Outcomes.{Flow, Gives, Broken, Result, Done, Stopped, Step, Steps, Fails, Waits, step_result, Action, Outcome, done, stop, next, then_run, act, choose, value_of, on_flow}
use Rattle.acpi_state.specs.Actions.{give, go_on, and_then, computed}
use Rattle.acpi_state.specs.Places.{put}
use Rattle.acpi_state.specs.Stores.{Spot, At, unanswered, store, store_to}
use Rattle.acpi_state.specs.Acts.{Operand, OfValue, OfSpot, give_one, answer_or, act_of, last_of}
use Rattle.acpi_state.specs.Forms.{LocalSlot, here, slot_of, package_of}
use Rattle.asl_tree.specs.Constants.{is_unary}
use Rattle.asl_tree.specs.Literals.{literal_number}
use Rattle.asl_tree.specs.Names.{Known}
use Rattle.asl_tree.specs.Tree.{Tree, Integer, Constant, InSlot, Omitted, Apply, Package, VarPackage, Trees, no_trees, tree}
use Rattle.asl_meaning.specs.Meaning as S
use Rattle.asl_meaning.specs.Meaning.{SourceRun}
use Rattle.asl_fold.specs.declared.fate.Fate.{Fate}
use Rattle.asl_fold.specs.Folds as F
use Rattle.asl_fold.specs.Folds.{constant, constants, result_on, fate_at, fate_with, fate_of, replaced, reduced, sized}
use Rattle.asl_fold.proofs.Fits.{wrapped_same}
use Rattle.asl_fold.proofs.Operators.{number, results, last_result, one_letter, two_letters, acts_one, acts_two}
use Rattle.asl_fold.proofs.Values.{some_same, on_one, on_two, fits}

-- two operands one after another
two_operands : {A C : Type 0} (first : SourceRun A) (f : A → Operand) (second : SourceRun C) (g : C → Operand) →
    then_run (then_run first (λ a. done (f a))) (λ o. then_run (then_run (then_run second (λ c. done (g c))) (λ o. then_run (done []) (λ os. done (o ∷ os)))) (λ os. done (o ∷ os))) ≡ then_run first (λ a. then_run second (λ c. done (f a ∷ g c ∷ [])))
two_operands {A} {C} first f second g = fun_ext (λ s. by_first (first s).result (first s).state)
  where
    by_second : (o : Operand) (r : Result C) (t : State Trees) →
        next (next (next r t (λ c. done (g c))).result (next r t (λ c. done (g c))).state (λ o. then_run (done []) (λ os. done (o ∷ os)))).result (next (next r t (λ c. done (g c))).result (next r t (λ c. done (g c))).state (λ o. then_run (done []) (λ os. done (o ∷ os)))).state (λ os. done (o ∷ os))
        ≡ next r t (λ c. done (o ∷ g c ∷ []))
    by_second o (Done c) t = refl
    by_second o (Stopped x) t = refl

    by_first : (r : Result A) (t : State Trees) →
        next (next r t (λ a. done (f a))).result (next r t (λ a. done (f a))).state (λ o. then_run (then_run (then_run second (λ c. done (g c))) (λ o. then_run (done []) (λ os. done (o ∷ os)))) (λ os. done (o ∷ os)))
        ≡ next r t (λ a. then_run second (λ c. done (f a ∷ g c ∷ [])))
    by_first (Done a) t = by_second (f a) (second t).result (second t).state
    by_first (Stopped x) t = refl

abbrev nothing : SourceRun (Unit {0})
nothing = done tt

-- Two runs of a term that end alike, or, where it is a statement, whose value nobody takes, after which a list of terms goes on alike.
abbrev pub EndAlike : Bool → SourceRun Flow → SourceRun Flow → State Trees → Type 0
EndAlike false m m' s = m s ≡ m' s
EndAlike true m m' s = (go : Bool → SourceRun Flow) → then_run m (λ f. on_flow f go) s ≡ then_run m' (λ f. on_flow f go) s

same_end : (statement : Bool) (m m' : SourceRun Flow) (s : State Trees) → m s ≡ m' s → EndAlike statement m m' s
same_end false m m' s e = e
same_end true m m' s e = λ go. ap (λ (o : Outcome Trees Flow). next o.result o.state (λ f. on_flow f go)) e

then_same : (statement : Bool) (m m' m'' : SourceRun Flow) (s : State Trees) → EndAlike statement m m' s → m' s ≡ m'' s → EndAlike statement m m'' s
then_same false m m' m'' s h e = h ∙ e
then_same true m m' m'' s h e = λ go. h go ∙ ap (λ (o : Outcome Trees Flow). next o.result o.state (λ f. on_flow f go)) e

-- a value as Store stores and gives it, and as an operator with a target does
abbrev as_store : Action (Option Value) → Value → SourceRun Flow
as_store a v = then_run (act (and_then a (λ answer. give_one (answer_or answer v)))) (λ rs. then_run nothing (λ u. done (last_of rs)))

abbrev as_target : Action (Option Value) → Value → SourceRun Flow
as_target a v = then_run (then_run (act (and_then a (λ answer. give {A = Unit {0}} tt))) (λ u. nothing)) (λ u. done (Gives v))

abbrev on_outcome : {A C : Type 0} → Outcome Trees A → (A → SourceRun C) → Outcome Trees C
on_outcome o k = next o.result o.state k

-- an action that goes on behind a step
abbrev step_on : {A C : Type 0} → State Trees → Step A × Store → (A → Action C) → Step C × Store
step_on s r k = go_on r.0 k s.names r.1

abbrev stepped : {A : Type 0} → State Trees → Step A × Store → Outcome Trees A
stepped s r = record { result = step_result r.0; state = record s { store = r.1 } }

-- without an answer
stored_act : (a : Action (Unit {0})) (v : Value) (s : State Trees) → as_store (unanswered a) v s ≡ as_target (unanswered a) v s
stored_act a v s = by_step (a s.names s.store).0 (a s.names s.store).1
  where
    by_step : (r : Step (Unit {0})) (st : Store) →
        on_outcome (stepped s (step_on s (step_on s (r, st) (λ u. give {A = Option Value} None)) (λ answer. give_one (answer_or answer v)))) (λ rs. then_run nothing (λ u. done (last_of rs)))
        ≡ on_outcome (on_outcome (stepped s (step_on s (step_on s (r, st) (λ u. give {A = Option Value} None)) (λ answer. give {A = Unit {0}} tt))) (λ u. nothing)) (λ u. done (Gives v))
    by_step (Steps u) st = refl
    by_step (Fails f) st = refl
    by_step Waits st = refl

-- with an answer, which nobody takes
stored_unseen : (a : Action (Option Value)) (v : Value) (s : State Trees) (go : Bool → SourceRun Flow) → then_run (as_store a v) (λ f. on_flow f go) s ≡ then_run (as_target a v) (λ f. on_flow f go) s
stored_unseen a v s go = by_step (a s.names s.store).0 (a s.names s.store).1
  where
    by_step : (r : Step (Option Value)) (st : Store) →
        on_outcome (on_outcome (stepped s (step_on s (r, st) (λ answer. give_one (answer_or answer v)))) (λ rs. then_run nothing (λ u. done (last_of rs)))) (λ f. on_flow f go)
        ≡ on_outcome (on_outcome (on_outcome (stepped s (step_on s (r, st) (λ answer. give {A = Unit {0}} tt))) (λ u. nothing)) (λ u. done (Gives v))) (λ f. on_flow f go)
    by_step (Steps answer) st = refl
    by_step (Fails f) st = refl
    by_step Waits st = refl

module _ (width : Width) (known : Known) (turns : ℕ) (call : AbsolutePath → List Value → SourceRun Flow) where
  abbrev R : Tree → AbsolutePath → Bool → SourceRun Flow
  R = S.run width known turns call

  abbrev spot_at : Tree → AbsolutePath → SourceRun Spot
  spot_at = S.spot width known turns call

  abbrev operands_at : List Letter → Trees → AbsolutePath → SourceRun (List Operand)
  operands_at = S.operands width known turns call

  abbrev stores_at : Trees → List Value → AbsolutePath → SourceRun (Unit {0})
  stores_at = S.store_all width known turns call

  -- a constant gives its value
  constant_runs : (t : Tree) (a : ℕ) (scope : AbsolutePath) → constant width t ≡ Some a → R t scope false ≡ done (Gives (number a))
  constant_runs (Integer n) a scope e = ap (λ n. done (Gives (number n))) (some_same (wrapped width n) a e)
  constant_runs (Constant literal) a scope e = ap (λ n. done (Gives (number n))) (some_same (literal_number width literal) a e)
  constant_runs _ a scope e = absurd cc

  -- targets take results, and the last result is given
  abbrev targets_take : Trees → List Value → ℕ → AbsolutePath → SourceRun Flow
  targets_take targets rs n scope = then_run (stores_at targets rs scope) (λ u. done (Gives (number n)))

  -- what an operator does behind its operands
  abbrev behind : Plain → Trees → AbsolutePath → List Operand → SourceRun Flow
  behind op targets scope os = then_run (act (act_of op width os)) (λ rs. then_run (stores_at targets rs scope) (λ u. done (last_of rs)))

  behind_acts : (op : Plain) (targets : Trees) (scope : AbsolutePath) (os : List Operand) (many r n : ℕ) (s : State Trees) → act_of op width os s.names s.store ≡ (Steps (results many r n), s.store)
      → behind op targets scope os s ≡ targets_take targets (results many r n) n scope s
  behind_acts op targets scope os many r n s e =
      ap (λ (r : Step (List Value) × Store). next (step_result r.0) (record s { store = r.1 }) (λ rs. then_run (stores_at targets rs scope) (λ u. done (last_of rs)))) e
      ∙ ap (λ flow. then_run (stores_at targets (results many r n) scope) (λ u. done flow) s) (last_result many r n)

  abbrev operand_of : SourceRun Flow → SourceRun Operand
  operand_of m = then_run (then_run m value_of) (λ v. done (OfValue v))

  one_runs : (op : IntOp) (t : Tree) (targets : Trees) (a n : ℕ) (scope : AbsolutePath) (due : Bool) (s : State Trees) → is_unary op ≡ true → constant width t ≡ Some a → applied op width a 0 ≡ Ok n
      → R (Apply (Plain.Number op) (tree t no_trees) targets) scope due s ≡ targets_take targets (results (row_of (Plain.Number op)).targets 0 n) n scope s
  one_runs op t targets a n scope due s unary is gives =
      let k : List Operand → SourceRun Flow = behind (Plain.Number op) targets scope in
      ap (λ letters. then_run (operands_at letters (tree t no_trees) scope) k s) (one_letter op unary)
      ∙ ap (λ (m : SourceRun Flow). then_run (then_run (operand_of m) (λ o. then_run (done []) (λ os. done (o ∷ os)))) k s) (constant_runs t a scope is)
      ∙ behind_acts (Plain.Number op) targets scope (OfValue (number a) ∷ []) (row_of (Plain.Number op)).targets 0 n s (acts_one width s.names s.store op a n unary gives)

  two_runs : (op : IntOp) (t u : Tree) (targets : Trees) (a b n : ℕ) (scope : AbsolutePath) (due : Bool) (s : State Trees) → is_unary op ≡ false → constant width t ≡ Some a → constant width u ≡ Some b → applied op width a b ≡ Ok n
      → R (Apply (Plain.Number op) (tree t (tree u no_trees)) targets) scope due s ≡ targets_take targets (results (row_of (Plain.Number op)).targets (a % b) n) n scope s
  two_runs op t u targets a b n scope due s binary is other_is gives =
      let k : List Operand → SourceRun Flow = behind (Plain.Number op) targets scope in
      let last : SourceRun Flow → Operand → SourceRun (List Operand) = λ m o. then_run (then_run (operand_of m) (λ o. then_run (done []) (λ os. done (o ∷ os)))) (λ os. done (o ∷ os)) in
      ap (λ letters. then_run (operands_at letters (tree t (tree u no_trees)) scope) k s) (two_letters op binary)
      ∙ ap (λ (m : SourceRun Flow). then_run (then_run (operand_of m) (last (R u scope false))) k s) (constant_runs t a scope is)
      ∙ ap (λ (m : SourceRun Flow). then_run (last m (OfValue (number a))) k s) (constant_runs u b scope other_is)
      ∙ behind_acts (Plain.Number op) targets scope (OfValue (number a) ∷ OfValue (number b) ∷ []) (row_of (Plain.Number op)).targets (a % b) n s (acts_two width s.names s.store op a b n binary gives)

  -- an operator on constants gives its result
  pub record GivesResult (op : IntOp) (args targets : Trees) (n : ℕ) (scope : AbsolutePath) (due : Bool) (s : State Trees) : Type 0 where
    pub remainder : ℕ
    pub runs : R (Apply (Plain.Number op) args targets) scope due s ≡ targets_take targets (results (row_of (Plain.Number op)).targets remainder n) n scope s

  gives_result : (op : IntOp) (unary : Bool) (args targets : Trees) (n : ℕ) (scope : AbsolutePath) (due : Bool) (s : State Trees) → is_unary op ≡ unary → result_on width op unary (constants width args) ≡ Some n → GivesResult op args targets n scope due s
  gives_result op true args targets n scope due s e h =
      let o = on_one width op args n h in
      record { remainder = 0; runs = ap (λ ts. R (Apply (Plain.Number op) ts targets) scope due s) o.args_are ∙ one_runs op o.term targets o.value n scope due s e o.is o.gives }
  gives_result op false args targets n scope due s e h =
      let o = on_two width op args n h in
      record {
        remainder = o.value % o.behind;
        runs = ap (λ ts. R (Apply (Plain.Number op) ts targets) scope due s) o.args_are ∙ two_runs op o.term o.other targets o.value o.behind n scope due s e o.is o.other_is o.gives;
      }

  -- Store of a result, by what its place is
  abbrev of_spot : ℕ → Outcome Trees Spot → Outcome Trees Flow
  of_spot n o =
      let taken = next o.result o.state (λ p. done (OfValue (number n) ∷ OfSpot p ∷ [])) in
      next taken.result taken.state (λ os. then_run (act (act_of (Plain.Data DataOp.Store) width os)) (λ rs. then_run nothing (λ u. done (last_of rs))))

  abbrev of_target : ℕ → Outcome Trees Spot → Outcome Trees Flow
  of_target n o =
      let taken = next o.result o.state (λ p. then_run (act (store width p (number n))) (λ u. nothing)) in
      next taken.result taken.state (λ u. done (Gives (number n)))

  abbrev StoreOf : ℕ → Tree → Tree
  StoreOf n target = Apply (Plain.Data DataOp.Store) (tree (Integer n) (tree target no_trees)) no_trees

  store_runs : (n : ℕ) (target : Tree) (scope : AbsolutePath) (due : Bool) (s : State Trees) → wrapped width n ≡ n → R (StoreOf n target) scope due s ≡ of_spot n (spot_at target scope s)
  store_runs n target scope due s e =
      let k : List Operand → SourceRun Flow = λ os. then_run (act (act_of (Plain.Data DataOp.Store) width os)) (λ rs. then_run nothing (λ u. done (last_of rs))) in
      ap (λ (ops : SourceRun (List Operand)). then_run ops k s) (two_operands (then_run (R (Integer n) scope false) value_of) (λ v. OfValue v) (spot_at target scope) (λ p. OfSpot p))
      ∙ ap (λ m. then_run (then_run (spot_at target scope) (λ p. done (OfValue (number m) ∷ OfSpot p ∷ []))) k s) e

  abbrev local_spot : ℕ → State Trees → Step ℕ × Store → Outcome Trees Spot
  local_spot index s r = on_outcome (stepped s (step_on s r (λ number. give (slot_of number (LocalSlot index))))) (λ place. done (At place))

  -- into a Local, which has no answer
  local_runs : (n index : ℕ) (scope : AbsolutePath) (due : Bool) (s : State Trees) → wrapped width n ≡ n → R (StoreOf n (InSlot (LocalSlot index))) scope due s ≡ targets_take (tree (InSlot (LocalSlot index)) no_trees) (number n ∷ []) n scope s
  local_runs n index scope due s e = store_runs n (InSlot (LocalSlot index)) scope due s e ∙ by_here (here s.names s.store).0 (here s.names s.store).1
    where
      by_here : (r : Step ℕ) (st : Store) → of_spot n (local_spot index s (r, st)) ≡ of_target n (local_spot index s (r, st))
      by_here (Steps m) st = stored_act (put width (LocalOf m index) (number n)) (number n) (record s { store = st })
      by_here (Fails f) st = refl
      by_here Waits st = refl

  -- into any place, where nobody takes the value
  unseen_runs : (n : ℕ) (target : Tree) (scope : AbsolutePath) (due : Bool) (s : State Trees) → wrapped width n ≡ n → EndAlike true (R (StoreOf n target) scope due) (targets_take (tree target no_trees) (number n ∷ []) n scope) s
  unseen_runs n target scope due s e =
      λ go. ap (λ (o : Outcome Trees Flow). next o.result o.state (λ f. on_flow f go)) (store_runs n target scope due s e) ∙ by_spot go (spot_at target scope s).result (spot_at target scope s).state
    where
      by_spot : (go : Bool → SourceRun Flow) (r : Result Spot) (t : State Trees) → on_outcome (of_spot n (record { result = r; state = t })) (λ f. on_flow f go) ≡ on_outcome (of_target n (record { result = r; state = t })) (λ f. on_flow f go)
      by_spot go (Done p) t = stored_unseen (store_to width p (number n)) (number n) t go
      by_spot go (Stopped x) t = refl

  -- with a target
  at_target : (statement : Bool) (target : Tree) (op : Plain) (args targets : Trees) (n : ℕ) (scope : AbsolutePath) (due : Bool) (s : State Trees) → wrapped width n ≡ n → F.last_of targets ≡ tree target no_trees
      → R (Apply op args targets) scope due s ≡ targets_take (tree target no_trees) (number n ∷ []) n scope s
      → EndAlike statement (R (replaced (fate_at statement target n) op args targets) scope due) (targets_take (tree target no_trees) (number n ∷ []) n scope) s
  at_target statement Omitted op args targets n scope due s e l h = same_end statement _ _ s (ap (λ m. done (Gives (number m)) s) e)
  at_target statement (InSlot (LocalSlot index)) op args targets n scope due s e l h =
      same_end statement _ _ s (ap (λ ts. R (Apply (Plain.Data DataOp.Store) (tree (Integer n) ts) no_trees) scope due s) l ∙ local_runs n index scope due s e)
  at_target true target op args targets n scope due s e l h =
      λ go. ap (λ ts. then_run (R (Apply (Plain.Data DataOp.Store) (tree (Integer n) ts) no_trees) scope due) (λ f. on_flow f go) s) l ∙ unseen_runs n target scope due s e go
  at_target false target op args targets n scope due s e l h = h

  -- with so many
  with_targets : (statement : Bool) (many : ℕ) (op : Plain) (args targets : Trees) (r n : ℕ) (scope : AbsolutePath) (due : Bool) (s : State Trees) → wrapped width n ≡ n
      → R (Apply op args targets) scope due s ≡ targets_take targets (results many r n) n scope s
      → EndAlike statement (R (replaced (fate_with statement many targets n) op args targets) scope due) (targets_take targets (results many r n) n scope) s
  with_targets statement zero op args no_trees r n scope due s e h = same_end statement _ _ s (ap (λ m. done (Gives (number m)) s) e)
  with_targets statement (suc zero) op args (tree target no_trees) r n scope due s e h = at_target statement target op args (tree target no_trees) n scope due s e refl h
  with_targets statement (suc (suc zero)) op args (tree Omitted (tree target no_trees)) r n scope due s e h = at_target statement target op args (tree Omitted (tree target no_trees)) n scope due s e refl h
  with_targets statement many op args targets r n scope due s e h = same_end statement _ _ s h

  number_runs : (statement : Bool) (op : IntOp) (args targets : Trees) (scope : AbsolutePath) (due : Bool) (s : State Trees)
      → EndAlike statement (R (reduced width statement (Plain.Number op) args targets) scope due) (R (Apply (Plain.Number op) args targets) scope due) s
  number_runs statement op args targets scope due s = by_result (result_on width op (is_unary op) (constants width args)) refl
    where
      by_result : (o : Option ℕ) → result_on width op (is_unary op) (constants width args) ≡ o
          → EndAlike statement (R (replaced (choose o Fate.Stays (fate_with statement (row_of (Plain.Number op)).targets targets)) (Plain.Number op) args targets) scope due) (R (Apply (Plain.Number op) args targets) scope due) s
      by_result None e = same_end statement _ _ s refl
      by_result (Some n) e =
          let g = gives_result op (is_unary op) args targets n scope due s refl e in
          then_same statement _ _ _ s (with_targets statement (row_of (Plain.Number op)).targets (Plain.Number op) args targets g.remainder n scope due s (wrapped_same width n (fits width op (is_unary op) args n e)) g.runs) (sym g.runs)

  -- an operator in an expression and what it becomes
  pub reduced_runs : (op : Plain) (args targets : Trees) (scope : AbsolutePath) (due : Bool) → R (reduced width false op args targets) scope due ≡ R (Apply op args targets) scope due
  reduced_runs (Plain.Number op) args targets scope due = fun_ext (λ s. number_runs false op args targets scope due s)
  reduced_runs (Plain.Data op) args targets scope due = refl
  reduced_runs (Plain.Event op) args targets scope due = refl

  -- and as a statement, behind which a list of terms goes on: a Store's answer is not seen
  pub reduced_statement : (op : Plain) (args targets : Trees) (scope : AbsolutePath) (due : Bool) (go : Bool → SourceRun Flow)
      → then_run (R (reduced width true op args targets) scope due) (λ f. on_flow f go) ≡ then_run (R (Apply op args targets) scope due) (λ f. on_flow f go)
  reduced_statement (Plain.Number op) args targets scope due go = fun_ext (λ s. number_runs true op args targets scope due s go)
  reduced_statement (Plain.Data op) args targets scope due go = refl
  reduced_statement (Plain.Event op) args targets scope due go = refl

  -- as a place
  pub reduced_spot : (statement : Bool) (op : Plain) (args targets : Trees) (scope : AbsolutePath) → spot_at (reduced width statement op args targets) scope ≡ spot_at (Apply op args targets) scope
  reduced_spot statement (Plain.Number op) args targets scope = by_fate (fate_of width statement op args targets)
    where
      by_fate : (fate : Fate) → spot_at (replaced fate (Plain.Number op) args targets) scope ≡ stop Broken
      by_fate Fate.Stays = refl
      by_fate (Fate.Becomes n) = refl
      by_fate (Fate.Stores n) = refl
  reduced_spot statement (Plain.Data op) args targets scope = refl
  reduced_spot statement (Plain.Event op) args targets scope = refl

  small_fits : (w : Width) (n : ℕ) → nat_le n 255 ≡ true → n ≤ ones_of w
  small_fits W32 n e = let le : n ≤ 255 = grind (arith, nat_tests, e) in omega (arith, le)
  small_fits W64 n e = let le : n ≤ 255 = grind (arith, nat_tests, e) in omega (arith, le)

  -- a Package whose number of elements is a constant
  counted_runs : (n : ℕ) (elements : Trees) (scope : AbsolutePath) (due : Bool) (s : State Trees) → wrapped width n ≡ n → R (Package n elements) scope due s ≡ R (VarPackage (Integer n) elements) scope due s
  counted_runs n elements scope due s e =
      ap (λ m. then_run (S.elements width known turns call elements scope) (λ es. then_run (act (computed (package_of m es))) (λ v. done (Gives v))) s) (sym e)

  pub sized_runs : (size : Tree) (elements : Trees) (scope : AbsolutePath) (due : Bool) → R (sized size elements) scope due ≡ R (VarPackage size elements) scope due
  sized_runs (Integer n) elements scope due = by_small (nat_le n 255) refl
    where
      by_small : (c : Bool) → nat_le n 255 ≡ c → R (if c then Package n elements else VarPackage (Integer n) elements) scope due ≡ R (VarPackage (Integer n) elements) scope due
      by_small true e = fun_ext (λ s. counted_runs n elements scope due s (wrapped_same width n (small_fits width n e)))
      by_small false e = refl
  sized_runs size elements scope due = refl
