-- A hidden Local of the innermost activation is set and read by the one side alone.
use Rattle.std.proofs.Common.{◌≡◌, ℕ, zero, suc, ◌+◌, ◌<◌, Bool, true, false, List, [], ◌∷◌, length, set, Option, Some, None, refl, sym, ap, ◌∙◌, subst, arith}
use Rattle.std.specs.Prelude.{if◌then◌else◌, nat_eq, slice_get}
use Rattle.std.proofs.lemmas.List.{length-set}
use Rattle.std.proofs.lemmas.Bool.Decides.{nat_tests}
use Rattle.acpi_values.specs.declared.width.Width.{Width}
use Rattle.acpi_values.specs.declared.operator.Plain.{Plain}
use Rattle.acpi_values.specs.declared.operator.DataOp.TheVariants as DataOp
use Rattle.acpi_values.specs.declared.fault.Fault.TheVariants.{NotFound, Uninitialized}
use Rattle.acpi_values.specs.Paths.{AbsolutePath}
use Rattle.acpi_values.specs.Values.{Value, LocalOf}
use Rattle.acpi_values.specs.Operators.{Placed}
use Rattle.acpi_state.specs.State.{Frame, Store, State}
use Rattle.acpi_state.specs.Objects.{Names}
use Rattle.acpi_state.specs.Outcomes.{Flow, Gives, Stop, Done, Stopped, Outcome, Run, Step, Steps, Action, step_result, done, next, then_run, act, value_of}
use Rattle.acpi_state.specs.Actions.{change, give, and_then, go_on, needed}
use Rattle.acpi_state.specs.Activations.{outer_of}
use Rattle.acpi_state.specs.Places.{slot, frame_of, with_frame, put}
use Rattle.acpi_state.specs.Stores.{read}
use Rattle.acpi_state.specs.Acts.{OfValue, give_one, answer_or, act_of, last_of}
use Rattle.asl_tree.specs.Names.{Known}
use Rattle.asl_tree.specs.Tree.{Tree, Trees, no_trees, tree}
use Rattle.asl_meaning.specs.Meaning as S
use Rattle.hidden_locals.specs.Worlds.{World, shown_at, shown_for, shown_here, mask, hide_frames, Clear, ClearFrames, numbers}
use Rattle.hidden_locals.specs.Runs.{Veiled, left, IsFine}
use Rattle.hidden_locals.specs.Steps.{local_in, set_first, set_local}
use Rattle.hidden_locals.specs.Turns.{local, stored}
use Rattle.hidden_locals.proofs.Places.{set_clear}

-- a hidden Local that is set is not seen
set_masked : (shown : ℕ → Bool) (xs : List (Option Value)) (k i j : ℕ) (v : Option Value) → j ≡ k + i → shown j ≡ false → mask shown k (set xs i v) ≡ mask shown k xs
set_masked shown [] k i j v e h = refl
set_masked shown (x ∷ xs) k zero j v e h =
    let at : shown k ≡ false = subst (λ n. shown n ≡ false) (omega (arith, e)) h in
    ap (λ b. (if b then v else None) ∷ mask shown (suc k) xs) at ∙ ap (λ b. (if b then x else None) ∷ mask shown (suc k) xs) (sym at)
set_masked shown (x ∷ xs) k (suc i) j v e h = ap (λ ys. (if shown k then x else None) ∷ ys) (set_masked shown xs (suc k) i j v (omega (arith, e)) h)

slot_set : (xs : List (Option Value)) (i : ℕ) (v : Value) → i < length xs → slot (slice_get (set xs i (Some v)) i) ≡ Some v
slot_set [] i v lt = absurd (omega (arith, lt))
slot_set (x ∷ xs) zero v lt = refl
slot_set (x ∷ xs) (suc i) v lt = slot_set xs i v (omega (arith, lt))

slot_other : (xs : List (Option Value)) (i k : ℕ) (v : Option Value) → nat_eq k i ≡ false → slot (slice_get (set xs i v) k) ≡ slot (slice_get xs k)
slot_other [] i k v e = refl
slot_other (x ∷ xs) zero zero v e = absurd (grind arith)
slot_other (x ∷ xs) zero (suc k) v e = refl
slot_other (x ∷ xs) (suc i) zero v e = refl
slot_other (x ∷ xs) (suc i) (suc k) v e = slot_other xs i k v (grind (arith, nat_tests, e))

same_number : (n : ℕ) → nat_eq n n ≡ true
same_number n = by_test (nat_eq n n) refl
  where
    by_test : (c : Bool) → nat_eq n n ≡ c → c ≡ true
    by_test true e = refl
    by_test false e = absurd (grind (arith, nat_tests, e))

module _ (w : World) (i : ℕ) (v : Value) (hidden : shown_here w i ≡ false) where
  first_hidden : (f : Frame) (fs : List Frame) → f.number ∷ numbers fs ≡ w.running → shown_at w f.number i ≡ false
  first_hidden f fs e = subst (λ ns. shown_for w ns i ≡ false) (sym e) hidden

  hide_set : (fs : List Frame) → numbers fs ≡ w.running → hide_frames w (set_first i v fs) ≡ hide_frames w fs
  hide_set [] e = refl
  hide_set (f ∷ fs) e = ap (λ l. record f { locals = l } ∷ hide_frames w fs) (set_masked (shown_at w f.number) f.locals 0 i i (Some v) (omega arith) (first_hidden f fs e))

  frames_set : (fs : List Frame) → Clear w v → ClearFrames w fs → ClearFrames w (set_first i v fs)
  frames_set [] p h = tt
  frames_set (f ∷ fs) p h = (set_clear w f.locals i v p h.0, h.1, h.2, length-set f.locals i (Some v) ∙ h.3, h.4)

numbers_set : (i : ℕ) (v : Value) (fs : List Frame) → numbers (set_first i v fs) ≡ numbers fs
numbers_set i v [] = refl
numbers_set i v (f ∷ fs) = refl

pub outer_set : (i : ℕ) (v : Value) (fs : List Frame) → outer_of (set_first i v fs) ≡ outer_of fs
outer_set i v [] = refl
outer_set i v (f ∷ fs) = refl

-- a hidden Local that is set holds the value, and the others hold what they did
pub set_holds : (w : World) (i : ℕ) (v : Value) → shown_here w i ≡ false → i < 8 → (fs : List Frame) → numbers fs ≡ w.running → ClearFrames w fs → local_in (set_first i v fs) i ≡ Some v
set_holds w i v hidden lt [] e h = absurd (let k : shown_for w [] i ≡ false = subst (λ ns. shown_for w ns i ≡ false) (sym e) hidden in grind arith)
set_holds w i v hidden lt (f ∷ fs) e h = slot_set f.locals i v (omega (arith, lt, h.3))

pub others_hold : (i k : ℕ) (v : Value) → nat_eq k i ≡ false → (fs : List Frame) → local_in (set_first i v fs) k ≡ local_in fs k
others_hold i k v e [] = refl
others_hold i k v e (f ∷ fs) = slot_other f.locals i k (Some v) e

module _ (convert : Trees → Trees) (IsKept : Trees → Type 0) where
  -- the one side does not see it
  pub left_set : (i : ℕ) (v : Value) (j : Veiled) → shown_here j.world i ≡ false → IsFine convert IsKept j → left convert IsKept (set_local i v j) ≡ left convert IsKept j
  left_set i v j hidden fine = ap (λ fs. record j.state { store = record j.state.store { frames = fs } }) (hide_set j.world i v hidden j.state.store.frames fine.store.running)

  pub fine_set : (i : ℕ) (v : Value) (j : Veiled) → shown_here j.world i ≡ false → Clear j.world v → IsFine convert IsKept j → IsFine convert IsKept (set_local i v j)
  fine_set i v j hidden p fine =
      record {
        names = fine.names;
        store = record { values = fine.store.values; frames = frames_set j.world i v hidden j.state.store.frames p fine.store.frames; running = numbers_set i v j.state.store.frames ∙ fine.store.running; answers = fine.store.answers };
        begun = fine.begun;
        bodies = fine.bodies;
      }

-- what the one side does with it
module _ (f : Frame) (fs : List Frame) (i : ℕ) (v : Value) where
  abbrev set_it : Frame → Frame
  set_it frame = record frame { locals = set frame.locals i (Some v) }

  abbrev changed : Option Frame → Action (Unit {0})
  changed o = and_then (needed NotFound o) (λ frame. change (λ s. record s { frames = with_frame f.number set_it s.frames }))

  frame_first : frame_of f.number (f ∷ fs) ≡ Some f
  frame_first = ap (λ b. if b then Some f else frame_of f.number fs) (same_number f.number)

  with_first : with_frame f.number set_it (f ∷ fs) ≡ set_first i v (f ∷ fs)
  with_first = ap (λ b. if b then set_it f ∷ fs else f ∷ with_frame f.number set_it fs) (same_number f.number)

  put_first : (width : Width) (names : Names) (s : Store) → s.frames ≡ f ∷ fs → put width (LocalOf f.number i) v names s ≡ (Steps tt, record s { frames = set_first i v s.frames })
  put_first width names s e =
      let g : frame_of f.number s.frames ≡ Some f = ap (frame_of f.number) e ∙ frame_first in
      let h : with_frame f.number set_it s.frames ≡ set_first i v s.frames = ap (with_frame f.number set_it) e ∙ with_first ∙ sym (ap (set_first i v) e) in
      ap (λ o. changed o names s) g ∙ ap (λ fs. (Steps tt, record s { frames = fs })) h

  read_first : (width : Width) (names : Names) (s : Store) → s.frames ≡ f ∷ fs → slot (slice_get f.locals i) ≡ Some v → read width (LocalOf f.number i) names s ≡ (Steps v, s)
  read_first width names s e held =
      ap (λ o. and_then (and_then (needed NotFound o) (λ frame. give (slot (slice_get frame.locals i)))) (needed Uninitialized) names s) (ap (frame_of f.number) e ∙ frame_first)
      ∙ ap (λ o. needed Uninitialized o names s) held

module _ (width : Width) (known : Known) (turns : ℕ) (call : AbsolutePath → List Value → Run Trees Flow) where
  abbrev R : Tree → AbsolutePath → Bool → Run Trees Flow
  R = S.run width known turns call

  abbrev with_frames : State Trees → List Frame → State Trees
  with_frames s fs = record s { store = record s.store { frames = fs } }

  -- a Local that holds a value has it
  local_first : (f : Frame) (fs : List Frame) (i : ℕ) (v : Value) (s : State Trees) → slot (slice_get f.locals i) ≡ Some v → (scope : AbsolutePath) (due : Bool) → R (local i) scope due (with_frames s (f ∷ fs)) ≡ record { result = Done (Gives v); state = with_frames s (f ∷ fs) }
  local_first f fs i v s held scope due =
      let t = with_frames s (f ∷ fs) in
      ap (λ (r : Step Value × Store). next (step_result r.0) (record t { store = r.1 }) (λ v. done (Gives v))) (read_first f fs i v width t.names t.store refl held)

  pub local_runs : (i : ℕ) (v : Value) (s : State Trees) → local_in s.store.frames i ≡ Some v → (scope : AbsolutePath) (due : Bool) → R (local i) scope due s ≡ record { result = Done (Gives v); state = s }
  local_runs i v s held scope due = by_frames s.store.frames held
    where
      by_frames : (fs : List Frame) → local_in fs i ≡ Some v → R (local i) scope due (with_frames s fs) ≡ record { result = Done (Gives v); state = with_frames s fs }
      by_frames [] h = absurd (grind arith)
      by_frames (f ∷ fs) h = local_first f fs i v s h scope due

  -- a Store of a value to a Local sets it
  abbrev after_value : ℕ → AbsolutePath → Outcome Trees Value → Outcome Trees Flow
  after_value i scope o =
      let a = next o.result o.state (λ v. done (OfValue v)) in
      let b = next a.result a.state (λ o. then_run (S.operands width known turns call (Placed ∷ []) (tree (local i) no_trees) scope) (λ os. done (o ∷ os))) in
      next b.result b.state (λ os. then_run (act (act_of (Plain.Data DataOp.Store) width os)) (λ rs. then_run (S.store_all width known turns call no_trees rs scope) (λ u. done (last_of rs))))

  stored_first : (f : Frame) (fs : List Frame) (i : ℕ) (v : Value) (s : State Trees) (scope : AbsolutePath) →
      after_value i scope (record { result = Done v; state = with_frames s (f ∷ fs) }) ≡ record { result = Done (Gives v); state = with_frames s (set_first i v (f ∷ fs)) }
  stored_first f fs i v s scope =
      let t = with_frames s (f ∷ fs) in
      let unanswered : Step (Unit {0}) × Store → Step (Option Value) × Store = λ r. go_on r.0 (λ u. give {A = Option Value} None) t.names r.1 in
      let given : Step (Option Value) × Store → Step (List Value) × Store = λ r. go_on r.0 (λ answer. give_one (answer_or answer v)) t.names r.1 in
      ap (λ (r : Step (Unit {0}) × Store). let q = given (unanswered r) in next (step_result q.0) (record t { store = q.1 }) (λ rs. done (last_of rs))) (put_first f fs i v width t.names t.store refl)

  pub stored_runs : (value : Tree) (i : ℕ) (scope : AbsolutePath) (due : Bool) (s t : State Trees) (v : Value) → then_run (R value scope false) value_of s ≡ record { result = Done v; state = t } → (f : Frame) (fs : List Frame) → t.store.frames ≡ f ∷ fs →
      R (stored value (local i)) scope due s ≡ record { result = Done (Gives v); state = with_frames t (set_first i v t.store.frames) }
  stored_runs value i scope due s t v e f fs g =
      ap (after_value i scope) e ∙ subst (λ fs. after_value i scope (record { result = Done v; state = with_frames t fs }) ≡ record { result = Done (Gives v); state = with_frames t (set_first i v fs) }) (sym g) (stored_first f fs i v t scope)

  pub stored_stops : (value : Tree) (i : ℕ) (scope : AbsolutePath) (due : Bool) (s t : State Trees) (x : Stop) → then_run (R value scope false) value_of s ≡ record { result = Stopped x; state = t } → R (stored value (local i)) scope due s ≡ record { result = Stopped x; state = t }
  stored_stops value i scope due s t x e = ap (after_value i scope) e
