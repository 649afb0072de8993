-- Runs that go from states of which something holds to states of which something holds, put together.
use Rattle.std.proofs.Common.{◌≡◌, ℕ, suc, ◌<◌, Bool, false, List, [], ◌∷◌, Option, None, refl, sym, ap, ◌∙◌, subst, arith}
use Rattle.std.proofs.Math.Path.{fun_ext}
use Rattle.std.specs.Prelude.{not, nat_eq, slice_get}
use Rattle.acpi_values.specs.declared.width.Width.{Width}
use Rattle.acpi_values.specs.Paths.{AbsolutePath}
use Rattle.acpi_values.specs.Values.{Value}
use Rattle.acpi_state.specs.State.{Frame}
use Rattle.acpi_state.specs.Outcomes.{Flow, Normal, Gives, NoValue, Break, Continue, Return, Result, Done, Stopped, map_result, Outcome, Run, done, next, then_run, on_flow}
use Rattle.acpi_state.specs.Activations.{outer_of}
use Rattle.acpi_state.specs.Places.{slot}
use Rattle.asl_tree.specs.Names.{Known}
use Rattle.asl_tree.specs.Tree.{Tree, Trees, tree}
use Rattle.asl_meaning.specs.Meaning as S
use Rattle.hidden_locals.specs.Worlds.{World, shown_at, shown_for, shown_here, hidden_of, numbers, Clear, Later, AreBegun}
use Rattle.hidden_locals.specs.Runs.{Veiled, Everywhere, Outside, left, right, IsFine, Ends, From}
use Rattle.hidden_locals.specs.Steps.{local_in, local_of, set_local, Marked, Taken, EndsAt, Ended, Goes}
use Rattle.hidden_locals.specs.Crossing.{value_at}
use Rattle.hidden_locals.specs.Turns.{local, stored, loop_of}
use Rattle.hidden_locals.proofs.Places.{slot_mask}
use Rattle.hidden_locals.proofs.Worlds.{same_world, later_then, clear_later, running_begun}
use Rattle.hidden_locals.proofs.Runs.{kept_where, kept_then}
use Rattle.hidden_locals.proofs.Taken.{outer_set, set_holds, others_hold, left_set, fine_set, stored_runs, stored_stops}
use Rattle.hidden_locals.proofs.Turns.{assoc_at, turned, again, one_turn}

-- what a hidden Local holds is told by what frames hide
abbrev local_among : List (List (Option Value)) → ℕ → Option Value
local_among [] i = None
local_among (l ∷ ls) i = slot (slice_get l i)

hidden_holds : (w : World) (i : ℕ) (fs : List Frame) → numbers fs ≡ w.running → shown_here w i ≡ false → local_among (hidden_of w fs) i ≡ local_in fs i
hidden_holds w i [] e h = refl
hidden_holds w i (f ∷ fs) e h =
    slot_mask w (λ i. not (shown_at w f.number i)) f.locals 0 i i (omega arith) (ap (λ b. not b) (subst (λ ns. shown_for w ns i ≡ false) (sym e) h))

pub hidden_stays : (w : World) (i : ℕ) (a b : List Frame) → numbers a ≡ w.running → numbers b ≡ w.running → shown_here w i ≡ false → hidden_of w b ≡ hidden_of w a → local_in b i ≡ local_in a i
hidden_stays w i a b ea eb h e = sym (hidden_holds w i b eb h) ∙ ap (λ ls. local_among ls i) e ∙ hidden_holds w i a ea h

-- what is hidden in the innermost activation stays so
pub hidden_here : (w w' : World) (i : ℕ) → AreBegun w w.running → Later w w' → shown_here w i ≡ false → shown_here w' i ≡ false
hidden_here w w' i begun later h = subst (λ ns. shown_for w' ns i ≡ false) (sym later.running) (by_running w.running begun h)
  where
    by_running : (ns : List ℕ) → AreBegun w ns → shown_for w ns i ≡ false → shown_for w' ns i ≡ false
    by_running [] begun h = absurd (grind arith)
    by_running (n ∷ ns) begun h = later.shown.by n i begun.0 ∙ h

module _ (convert : Trees → Trees) (IsKept : Trees → Type 0) where
  marked_later : (w : World) (i : ℕ) (H : Option Value → Type 0) (j t : Veiled) → IsFine convert IsKept j → Later j.world t.world → local_of t i ≡ local_of j i → Marked w i H j → Marked w i H t
  marked_later w i H j t fine later e m =
      record { later = later_then w j.world t.world m.later later; hidden = hidden_here j.world t.world i (running_begun j.world j.state.store fine.store) later m.hidden; holds = subst H (sym e) m.holds }

  -- runs that keep all that is hidden
  pub goes_from : (w : World) (i : ℕ) (H : Option Value → Type 0) {A C : Type 0} {P : World → A → Type 0} {c : A → C} {m : Run Trees A} {m' : Run Trees C} → From convert IsKept Everywhere w P c m m' →
      Goes convert IsKept (Marked w i H) (λ t a. Marked w i H t × P t.world a) c m m'
  goes_from w i H {A} {P = P} h = record {
    by = λ j fine mark.
        let g = h.by j mark.later fine in
        let same = hidden_stays j.world i j.state.store.frames g.end.state.store.frames fine.store.running (g.fine.store.running ∙ g.later.running) mark.hidden g.keeps in
        record {
          result = g.result;
          end = g.end;
          later = g.later;
          fine = g.fine;
          holds = go g.result g.end (marked_later w i H j g.end fine g.later same mark) g.holds;
          keeps = kept_where Outside j.world g.end.state.store.frames j.state.store.frames g.keeps;
          left_is = g.left_is;
          right_is = g.right_is;
        };
  }
    where
      go : (r : Result A) (t : Veiled) → Marked w i H t → Ends convert IsKept P r t → EndsAt convert IsKept (λ t a. Marked w i H t × P t.world a) r t
      go (Done a) t mark p = (mark, p)
      go (Stopped x) t mark p = tt

  -- the same where a value is kept
  pub goes_taken : (w : World) (i k : ℕ) (H : Option Value → Type 0) (v : Value) {A C : Type 0} {P : World → A → Type 0} {c : A → C} {m : Run Trees A} {m' : Run Trees C} → From convert IsKept Everywhere w P c m m' →
      Goes convert IsKept (λ t. Taken w i k H t v) (λ t a. Taken w i k H t v × P t.world a) c m m'
  goes_taken w i k H v {A} {P = P} h = record {
    by = λ j fine taken.
        let g = h.by j taken.other.later fine in
        let stays : (n : ℕ) → shown_here j.world n ≡ false → local_of g.end n ≡ local_of j n = λ n hidden. hidden_stays j.world n j.state.store.frames g.end.state.store.frames fine.store.running (g.fine.store.running ∙ g.later.running) hidden g.keeps in
        record {
          result = g.result;
          end = g.end;
          later = g.later;
          fine = g.fine;
          holds = go g.result g.end (record {
            clear = clear_later j.world g.end.world g.later.shown v taken.clear;
            hidden = hidden_here j.world g.end.world i (running_begun j.world j.state.store fine.store) g.later taken.hidden;
            holds = stays i taken.hidden ∙ taken.holds;
            other = marked_later w k H j g.end fine g.later (stays k taken.other.hidden) taken.other;
          }) g.holds;
          keeps = kept_where Outside j.world g.end.state.store.frames j.state.store.frames g.keeps;
          left_is = g.left_is;
          right_is = g.right_is;
        };
  }
    where
      go : (r : Result A) (t : Veiled) → Taken w i k H t v → Ends convert IsKept P r t → EndsAt convert IsKept (λ t a. Taken w i k H t v × P t.world a) r t
      go (Done a) t taken p = (taken, p)
      go (Stopped x) t taken p = tt

  -- the one, and then the other
  pub goes_then : {A C D E : Type 0} {Before : Veiled → Type 0} {Mid : Veiled → A → Type 0} {c : A → C} (After : Veiled → D → Type 0) (d : D → E) {m : Run Trees A} {m' : Run Trees C} {k : A → Run Trees D} (k' : C → Run Trees E) → Goes convert IsKept Before Mid c m m' →
      ((a : A) → Goes convert IsKept (λ t. Mid t a) After d (k a) (k' (c a))) → Goes convert IsKept Before After d (then_run m k) (then_run m' k')
  goes_then {A} {C} {D} {E} {Mid = Mid} {c = c} After d {m = m} {m' = m'} {k = k} k' hm hk = record { by = λ j fine before. let g = hm.by j fine before in go j fine g.result g.end g.later g.fine g.holds g.keeps g.left_is g.right_is }
    where
      go : (j : Veiled) → IsFine convert IsKept j → (r : Result A) (t : Veiled) → Later j.world t.world → IsFine convert IsKept t → EndsAt convert IsKept Mid r t → hidden_of j.world (outer_of t.state.store.frames) ≡ hidden_of j.world (outer_of j.state.store.frames) →
          m (left convert IsKept j) ≡ record { result = r; state = left convert IsKept t } → m' (right convert IsKept j) ≡ record { result = map_result c r; state = right convert IsKept t } →
          Ended convert IsKept After d j.world j.state.store.frames (then_run m k (left convert IsKept j)) (then_run m' k' (right convert IsKept j))
      go j start (Done a) t later fine p same e e' =
          let g = (hk a).by t fine p in
          record {
            result = g.result;
            end = g.end;
            later = later_then j.world t.world g.end.world later g.later;
            fine = g.fine;
            holds = g.holds;
            keeps = kept_then Outside j.world t.world later j.state.store.frames t.state.store.frames g.end.state.store.frames (running_begun j.world j.state.store start.store) (fine.store.running ∙ later.running) (g.fine.store.running ∙ g.later.running ∙ later.running) same g.keeps;
            left_is = ap (λ (o : Outcome Trees A). next o.result o.state k) e ∙ g.left_is;
            right_is = ap (λ (o : Outcome Trees C). next o.result o.state k') e' ∙ g.right_is;
          }
      go j start (Stopped x) t later fine p same e e' =
          record { result = Stopped x; end = t; later = later; fine = fine; holds = tt; keeps = same; left_is = ap (λ (o : Outcome Trees A). next o.result o.state k) e; right_is = ap (λ (o : Outcome Trees C). next o.result o.state k') e' }

  -- less before, or more after; and runs that are the same
  pub goes_so : {A C : Type 0} {Before Before' : Veiled → Type 0} {After After' : Veiled → A → Type 0} {c : A → C} {m : Run Trees A} {m' : Run Trees C} → ((j : Veiled) → Before' j → Before j) → ((t : Veiled) (a : A) → After t a → After' t a) →
      Goes convert IsKept Before After c m m' → Goes convert IsKept Before' After' c m m'
  goes_so {A} {After = After} {After' = After'} f g h = record { by = λ j fine before. let e = h.by j fine (f j before) in record { result = e.result; end = e.end; later = e.later; fine = e.fine; holds = go e.result e.end e.holds; keeps = e.keeps; left_is = e.left_is; right_is = e.right_is } }
    where
      go : (r : Result A) (t : Veiled) → EndsAt convert IsKept After r t → EndsAt convert IsKept After' r t
      go (Done a) t p = g t a p
      go (Stopped x) t p = tt

  pub goes_to : {A C : Type 0} {Before : Veiled → Type 0} {After : Veiled → A → Type 0} {c : A → C} {m : Run Trees A} {m' m'' : Run Trees C} → m' ≡ m'' → Goes convert IsKept Before After c m m'' → Goes convert IsKept Before After c m m'
  goes_to {Before = Before} {After = After} {c = c} {m = m} e h = subst (λ x. Goes convert IsKept Before After c m x) (sym e) h

  -- a result that both sides give
  pub goes_done : {A C : Type 0} (Before : Veiled → Type 0) (After : Veiled → A → Type 0) (c : A → C) (a : A) → ((j : Veiled) → Before j → After j a) → Goes convert IsKept Before After c (done a) (done (c a))
  goes_done Before After c a h = record { by = λ j fine before. record { result = Done a; end = j; later = same_world j.world; fine = fine; holds = h j before; keeps = refl; left_is = refl; right_is = refl } }

  module _ (width : Width) (known : Known) (turns : ℕ) (call call' : AbsolutePath → List Value → Run Trees Flow) where
    -- a value of the one side is stored by the other in a hidden Local, and another one holds what it did
    pub goes_stored : (w : World) (i k : ℕ) (H : Option Value → Type 0) (value : Tree) (scope : AbsolutePath) (due : Bool) → i < 8 → nat_eq k i ≡ false → From convert IsKept Everywhere w Clear (λ v. v) (value_at width known turns call value scope) (value_at width known turns call' value scope) →
        Goes convert IsKept (λ j. (shown_here j.world i ≡ false) × Marked w k H j) (Taken w i k H) (λ v. Gives v) (value_at width known turns call value scope) (S.run width known turns call' (stored value (local i)) scope due)
    goes_stored w i k H value scope due lt other h = record { by = λ j fine before. let g = (goes_from w k H h).by j fine before.1 in go j fine before.0 g.result g.end g.later g.fine g.holds g.keeps g.left_is g.right_is }
      where
        set_it : (j : Veiled) → (v : Value) (t : Veiled) → Later j.world t.world → IsFine convert IsKept t → shown_here t.world i ≡ false → Marked w k H t × Clear t.world v → hidden_of j.world (outer_of t.state.store.frames) ≡ hidden_of j.world (outer_of j.state.store.frames) →
            value_at width known turns call value scope (left convert IsKept j) ≡ record { result = Done v; state = left convert IsKept t } → value_at width known turns call' value scope (right convert IsKept j) ≡ record { result = Done v; state = right convert IsKept t } → (fs : List Frame) → t.state.store.frames ≡ fs →
            Ended convert IsKept (Taken w i k H) (λ v. Gives v) j.world j.state.store.frames (value_at width known turns call value scope (left convert IsKept j)) (S.run width known turns call' (stored value (local i)) scope due (right convert IsKept j))
        set_it j v t later fine hidden p same e e' [] at = absurd (let g : shown_for t.world [] i ≡ false = subst (λ ns. shown_for t.world ns i ≡ false) (sym fine.store.running ∙ ap numbers at) hidden in grind arith)
        set_it j v t later fine hidden p same e e' (f ∷ fs) at =
            record {
              result = Done v;
              end = set_local i v t;
              later = later;
              fine = fine_set convert IsKept i v t hidden p.1 fine;
              holds = record {
                clear = p.1;
                hidden = hidden;
                holds = set_holds t.world i v hidden lt t.state.store.frames fine.store.running fine.store.frames;
                other = record { later = p.0.later; hidden = p.0.hidden; holds = subst H (sym (others_hold i k v other t.state.store.frames)) p.0.holds };
              };
              keeps = ap (hidden_of j.world) (outer_set i v t.state.store.frames) ∙ same;
              left_is = e ∙ ap (λ s. record { result = Done v; state = s }) (sym (left_set convert IsKept i v t hidden fine));
              right_is = stored_runs width known turns call' value i scope due (right convert IsKept j) (right convert IsKept t) v e' f fs at;
            }

        go : (j : Veiled) → IsFine convert IsKept j → shown_here j.world i ≡ false → (r : Result Value) (t : Veiled) → Later j.world t.world → IsFine convert IsKept t → EndsAt convert IsKept (λ t v. Marked w k H t × Clear t.world v) r t →
            hidden_of j.world (outer_of t.state.store.frames) ≡ hidden_of j.world (outer_of j.state.store.frames) →
            value_at width known turns call value scope (left convert IsKept j) ≡ record { result = r; state = left convert IsKept t } → value_at width known turns call' value scope (right convert IsKept j) ≡ record { result = map_result (λ v. v) r; state = right convert IsKept t } →
            Ended convert IsKept (Taken w i k H) (λ v. Gives v) j.world j.state.store.frames (value_at width known turns call value scope (left convert IsKept j)) (S.run width known turns call' (stored value (local i)) scope due (right convert IsKept j))
        go j start hidden (Done v) t later fine p same e e' = set_it j v t later fine (hidden_here j.world t.world i (running_begun j.world j.state.store start.store) later hidden) p same e e' t.state.store.frames refl
        go j start hidden (Stopped x) t later fine p same e e' = record { result = Stopped x; end = t; later = later; fine = fine; holds = tt; keeps = same; left_is = e; right_is = stored_stops width known turns call' value i scope due (right convert IsKept j) (right convert IsKept t) x e' }

-- what a loop of one turn gives, where its terms do not end with Continue
abbrev pub IsTurned : Flow → Flow → Type 0
IsTurned Continue g = ⊥
IsTurned (Return v) g = g ≡ Return v
IsTurned f g = g ≡ Normal false

turned_is : (again : Run Trees Flow) (f g : Flow) → IsTurned f g → (s : _) → turned again f s ≡ done g s
turned_is again Continue g h s = absurd h
turned_is again (Return v) g h s = ap (λ g. done g s) (sym h)
turned_is again (Normal d) g h s = ap (λ g. done g s) (sym h)
turned_is again (Gives v) g h s = ap (λ g. done g s) (sym h)
turned_is again NoValue g h s = ap (λ g. done g s) (sym h)
turned_is again Break g h s = ap (λ g. done g s) (sym h)

module _ (convert : Trees → Trees) (IsKept : Trees → Type 0) (width : Width) (known : Known) (n : ℕ) (call call' : AbsolutePath → List Value → Run Trees Flow) where
  -- A value with which the one side goes on, and the other side's loop of one turn, which keeps the value in a hidden Local:
  -- they do the same, if the terms of the loop do what is done with the value.
  pub goes_loop : (w : World) (i k : ℕ) (H : Option Value → Type 0) (value : Tree) (chain : Trees) (scope : AbsolutePath) (due : Bool) → i < 8 → nat_eq k i ≡ false →
      From convert IsKept Everywhere w Clear (λ v. v) (value_at width known (suc n) call value scope) (value_at width known (suc n) call' value scope) →
      (with_value : Value → Run Trees Flow) (Mid After : Veiled → Flow → Type 0) (c c' out : Flow → Flow) → ((v : Value) → Goes convert IsKept (λ t. Taken w i k H t v) Mid c (with_value v) (S.run_all width known (suc n) call' chain scope false)) →
      ((t : Veiled) (f : Flow) → Mid t f → After t (out f) × IsTurned (c f) (c' (out f))) →
      Goes convert IsKept (λ j. (shown_here j.world i ≡ false) × Marked w k H j) After c'
      (then_run (value_at width known (suc n) call value scope) (λ v. then_run (with_value v) (λ f. done (out f)))) (S.run width known (suc n) call' (loop_of value (local i) chain) scope due)
  goes_loop w i k H value chain scope due lt other hv with_value Mid After c c' out hk leaves =
      goes_to convert IsKept (fun_ext (λ s. one_turn width known call' n (tree (stored value (local i)) chain) scope due s ∙ assoc_at (S.run width known (suc n) call' (stored value (local i)) scope false) (λ f. on_flow f rest) leave s))
      (goes_then convert IsKept After c' (λ f. then_run (on_flow f rest) leave) (goes_stored convert IsKept width known (suc n) call call' w i k H value scope false lt other hv) (λ v. goes_then convert IsKept After c' leave (hk v) (λ f. last f)))
    where
      rest : Bool → Run Trees Flow
      rest = S.run_all width known (suc n) call' chain scope

      leave : Flow → Run Trees Flow
      leave = turned (again width known call' (suc n) n (tree (stored value (local i)) chain) scope)

      last : (f : Flow) → Goes convert IsKept (λ t. Mid t f) After c' (done (out f)) (leave (c f))
      last f = record { by = λ j fine mid. let h = leaves j f mid in record { result = Done (out f); end = j; later = same_world j.world; fine = fine; holds = h.0; keeps = refl; left_is = refl; right_is = turned_is (again width known call' (suc n) n (tree (stored value (local i)) chain) scope) (c f) (c' (out f)) h.1 (right convert IsKept j) } }
