-- Two runs that do the same from every later world, put together.
use Rattle.std.proofs.Common.{◌≡◌, ℕ, Bool, true, false, List, [], ◌∷◌, refl, sym, ap, ◌∙◌, subst}
use Rattle.std.specs.Prelude.{if◌then◌else◌}
use Rattle.acpi_values.specs.declared.fault.Fault.{Fault}
use Rattle.acpi_state.specs.State.{Frame, Store}
use Rattle.acpi_state.specs.Objects.{Names}
use Rattle.acpi_state.specs.Outcomes.{Faulted, Unfinished, Stop, Result, Done, Stopped, map_result, Outcome, Run, Step, Steps, Fails, Waits, step_result, Action, done, stop, fault, next, then_run, act}
use Rattle.acpi_state.specs.Activations.{outer_of}
use Rattle.asl_tree.specs.Tree.{Trees}
use Rattle.hidden_locals.specs.Worlds.{World, hide, hidden_of, numbers, ClearNames, ClearStore, StaysShown, Later, AreBegun}
use Rattle.hidden_locals.specs.Blind.{Given, BlindAt, Blind}
use Rattle.hidden_locals.specs.Runs.{Veiled, Reach, Everywhere, Outside, kept_in, left, right, IsFine, Ends, Joint, From}
use Rattle.hidden_locals.proofs.Worlds.{same_world, later_then, running_begun, hidden_later}

-- no property of a result
abbrev pub Any : {A : Type 0} → World → A → Type 0
Any w a = Unit {0}

hidden_outer : (w : World) (fs : List Frame) → hidden_of w (outer_of fs) ≡ outer_of (hidden_of w fs)
hidden_outer w [] = refl
hidden_outer w (f ∷ fs) = refl

pub numbers_outer : (fs : List Frame) → numbers (outer_of fs) ≡ outer_of (numbers fs)
numbers_outer [] = refl
numbers_outer (f ∷ fs) = refl

begun_outer : (w : World) (ns : List ℕ) → AreBegun w ns → AreBegun w (outer_of ns)
begun_outer w [] h = tt
begun_outer w (n ∷ ns) h = h.1

-- where all stays, it stays in each reach
pub kept_where : (reach : Reach) (w : World) (a b : List Frame) → hidden_of w a ≡ hidden_of w b → kept_in reach w a ≡ kept_in reach w b
kept_where Everywhere w a b e = e
kept_where Outside w a b e = hidden_outer w a ∙ ap outer_of e ∙ sym (hidden_outer w b)

kept_later : (reach : Reach) (w w' : World) → StaysShown w w' → (fs : List Frame) → AreBegun w (numbers fs) → kept_in reach w' fs ≡ kept_in reach w fs
kept_later Everywhere w w' stays fs h = hidden_later w w' stays fs h
kept_later Outside w w' stays fs h = hidden_later w w' stays (outer_of fs) (subst (λ ns. AreBegun w ns) (sym (numbers_outer fs)) (begun_outer w (numbers fs) h))

-- what stays in each of two runs stays in both
pub kept_then : (reach : Reach) (w w' : World) → Later w w' → (a b c : List Frame) → AreBegun w w.running → numbers b ≡ w.running → numbers c ≡ w.running → kept_in reach w b ≡ kept_in reach w a → kept_in reach w' c ≡ kept_in reach w' b → kept_in reach w c ≡ kept_in reach w a
kept_then reach w w' later a b c h eb ec first second =
    sym (kept_later reach w w' later.shown c (subst (λ ns. AreBegun w ns) (sym ec) h)) ∙ second ∙ kept_later reach w w' later.shown b (subst (λ ns. AreBegun w ns) (sym eb) h) ∙ first

module _ (convert : Trees → Trees) (IsKept : Trees → Type 0) (reach : Reach) where
  pub from_done : (w : World) {A C : Type 0} (P : World → A → Type 0) (c : A → C) (a : A) → ((w' : World) → Later w w' → P w' a) → From convert IsKept reach w P c (done a) (done (c a))
  from_done w P c a h = record { by = λ j later fine. record { result = Done a; end = j; later = same_world j.world; fine = fine; holds = h j.world later; keeps = refl; left_is = refl; right_is = refl } }

  pub from_stop : (w : World) {A C : Type 0} (P : World → A → Type 0) (c : A → C) (x : Stop) → From convert IsKept reach w P c (stop x) (stop x)
  from_stop w P c x = record { by = λ j later fine. record { result = Stopped x; end = j; later = same_world j.world; fine = fine; holds = tt; keeps = refl; left_is = refl; right_is = refl } }

  pub from_fault : (w : World) {A C : Type 0} (P : World → A → Type 0) (c : A → C) (f : Fault) → From convert IsKept reach w P c (fault f) (fault f)
  from_fault w P c f = from_stop w P c (Faulted f)

  -- from a later world, and with a property that follows
  pub from_later : (w w' : World) {A C : Type 0} {P : World → A → Type 0} {c : A → C} {m : Run Trees A} {m' : Run Trees C} → Later w w' → From convert IsKept reach w P c m m' → From convert IsKept reach w' P c m m'
  from_later w w' later h = record { by = λ j after fine. h.by j (later_then w w' j.world later after) fine }

  pub from_so : (w : World) {A C : Type 0} {P : World → A → Type 0} (Q : World → A → Type 0) {c : A → C} {m : Run Trees A} {m' : Run Trees C} → ((w' : World) → (a : A) → P w' a → Q w' a) → From convert IsKept reach w P c m m' → From convert IsKept reach w Q c m m'
  from_so w {A} {P = P} Q f h =
      record { by = λ j later fine. let g = h.by j later fine in record { result = g.result; end = g.end; later = g.later; fine = g.fine; holds = go g.result g.end g.holds; keeps = g.keeps; left_is = g.left_is; right_is = g.right_is } }
    where
      go : (r : Result A) (t : Veiled) → Ends convert IsKept P r t → Ends convert IsKept Q r t
      go (Done a) t p = f t.world a p
      go (Stopped x) t p = tt

  pub from_then : (w : World) {A C D E : Type 0} {P : World → A → Type 0} {c : A → C} (Q : World → D → Type 0) (d : D → E) {m : Run Trees A} {m' : Run Trees C} {k : A → Run Trees D} (k' : C → Run Trees E) → From convert IsKept reach w P c m m'
      → ((w' : World) → Later w w' → (a : A) → P w' a → From convert IsKept reach w' Q d (k a) (k' (c a))) → From convert IsKept reach w Q d (then_run m k) (then_run m' k')
  from_then w {A} {C} {D} {E} {P = P} {c = c} Q d {m = m} {m' = m'} {k = k} k' sm sk = record { by = λ j later fine. let h = sm.by j later fine in go j later fine h.result h.end h.later h.fine h.holds h.keeps h.left_is h.right_is }
    where
      go : (j : Veiled) → Later w j.world → IsFine convert IsKept j → (r : Result A) (t : Veiled) → Later j.world t.world → IsFine convert IsKept t → Ends convert IsKept P r t → kept_in reach j.world t.state.store.frames ≡ kept_in reach j.world j.state.store.frames →
          m (left convert IsKept j) ≡ record { result = r; state = left convert IsKept t } → m' (right convert IsKept j) ≡ record { result = map_result c r; state = right convert IsKept t } →
          Joint convert IsKept reach Q d j.world j.state.store.frames (then_run m k (left convert IsKept j)) (then_run m' k' (right convert IsKept j))
      go j before start (Done a) t later fine p same e e' =
          let g = (sk t.world (later_then w j.world t.world before later) a p).by t (same_world t.world) fine in
          record {
            result = g.result;
            end = g.end;
            later = later_then j.world t.world g.end.world later g.later;
            fine = g.fine;
            holds = g.holds;
            keeps = kept_then reach j.world t.world later j.state.store.frames t.state.store.frames g.end.state.store.frames (running_begun j.world j.state.store start.store) (fine.store.running ∙ later.running) (g.fine.store.running ∙ g.later.running ∙ later.running) same g.keeps;
            left_is = ap (λ (o : Outcome Trees A). next o.result o.state k) e ∙ g.left_is;
            right_is = ap (λ (o : Outcome Trees C). next o.result o.state k') e' ∙ g.right_is;
          }
      go j before start (Stopped x) t later fine p same e e' =
          record { result = Stopped x; end = t; later = later; fine = fine; holds = tt; keeps = same; left_is = ap (λ (o : Outcome Trees A). next o.result o.state k) e; right_is = ap (λ (o : Outcome Trees C). next o.result o.state k') e' }

  -- one of two, by a test that both make
  pub from_if : (w : World) {A C : Type 0} (P : World → A → Type 0) (c : A → C) (b : Bool) {m n : Run Trees A} {m' n' : Run Trees C} → From convert IsKept reach w P c m m' → From convert IsKept reach w P c n n' → From convert IsKept reach w P c (if b then m else n) (if b then m' else n')
  from_if w P c true h k = h
  from_if w P c false h k = k

  -- a look at the objects
  pub from_look : (w : World) {A : Type 0} (P : World → A → Type 0) (f : Names → A) → ((w' : World) → Later w w' → (names : Names) → ClearNames w' names → P w' (f names)) → From convert IsKept reach w P (λ a. a) (λ s. done (f s.names) s) (λ s. done (f s.names) s)
  from_look w P f h = record { by = λ j later fine. record { result = Done (f j.state.names); end = j; later = same_world j.world; fine = fine; holds = h j.world later j.state.names fine.names; keeps = refl; left_is = refl; right_is = refl } }

  abbrev Both : {A : Type 0} → (World → A → Type 0) → Veiled → Step A × Store → Step A × Store → Type 0
  Both P j r q = Joint convert IsKept reach P (λ a. a) j.world j.state.store.frames (record { result = step_result q.0; state = record j.state { store = q.1 } }) (record { result = step_result r.0; state = record (right convert IsKept j) { store = r.1 } })

  -- an action that does not see hidden Locals
  pub from_act : (w : World) {A : Type 0} (P : World → A → Type 0) (a : Action A) → ((w' : World) → Later w w' → Blind w' (P w') a) → From convert IsKept reach w P (λ a. a) (act a) (act a)
  from_act w {A} P a h = record { by = λ j later fine. by_step j fine (a j.state.names j.state.store) (a j.state.names (hide j.world j.state.store)) ((h j.world later).by j.state.names j.state.store fine.names fine.store) }
    where
      kept : (j : Veiled) (s : Store) → IsFine convert IsKept j → ClearStore j.world s → IsFine convert IsKept (record { world = j.world; state = record j.state { store = s } })
      kept j s fine cs = record { names = fine.names; store = cs; begun = fine.begun; bodies = fine.bodies }

      ended : (j : Veiled) → IsFine convert IsKept j → (st : Step A) (s : Store) → ClearStore j.world s → Given (P j.world) st → hidden_of j.world s.frames ≡ hidden_of j.world j.state.store.frames → Both P j (st, s) (st, hide j.world s)
      ended j fine (Steps x) s cs p e =
          record { result = Done x; end = record { world = j.world; state = record j.state { store = s } }; later = same_world j.world; fine = kept j s fine cs; holds = p; keeps = kept_where reach j.world s.frames j.state.store.frames e; left_is = refl; right_is = refl }
      ended j fine (Fails f) s cs p e =
          record { result = Stopped (Faulted f); end = record { world = j.world; state = record j.state { store = s } }; later = same_world j.world; fine = kept j s fine cs; holds = tt; keeps = kept_where reach j.world s.frames j.state.store.frames e; left_is = refl; right_is = refl }
      ended j fine Waits s cs p e =
          record { result = Stopped Unfinished; end = record { world = j.world; state = record j.state { store = s } }; later = same_world j.world; fine = kept j s fine cs; holds = tt; keeps = kept_where reach j.world s.frames j.state.store.frames e; left_is = refl; right_is = refl }

      by_step : (j : Veiled) → IsFine convert IsKept j → (r r' : Step A × Store) → BlindAt j.world (P j.world) j.state.store r r' → Both P j r r'
      by_step j fine r r' b = subst (λ (q : Step A × Store). Both P j r q) (sym b.same) (ended j fine r.0 r.1 b.store b.result b.keeps)

-- what stays everywhere stays in each reach
module _ (convert : Trees → Trees) (IsKept : Trees → Type 0) where
  pub from_everywhere : (reach : Reach) (w : World) {A C : Type 0} {P : World → A → Type 0} {c : A → C} {m : Run Trees A} {m' : Run Trees C} → From convert IsKept Everywhere w P c m m' → From convert IsKept reach w P c m m'
  from_everywhere reach w h =
      record { by = λ j later fine. let g = h.by j later fine in record { result = g.result; end = g.end; later = g.later; fine = g.fine; holds = g.holds; keeps = kept_where reach j.world g.end.state.store.frames j.state.store.frames g.keeps; left_is = g.left_is; right_is = g.right_is } }
