-- The flag is set and tested by the one side alone: a Continue, and the loops of one turn that it crosses.
use Rattle.std.proofs.Common.{◌≡◌, ℕ, suc, ◌<◌, Bool, true, false, List, [], ◌∷◌, Option, Some, refl, sym, ap, ◌∙◌, subst, arith}
use Rattle.std.specs.Prelude.{if◌then◌else◌, nat_eq}
use Rattle.acpi_values.specs.declared.width.Width.{Width}
use Rattle.acpi_values.specs.Paths.{AbsolutePath}
use Rattle.acpi_values.specs.Values.{Value, Data, Integer}
use Rattle.acpi_state.specs.State.{Frame, State}
use Rattle.acpi_state.specs.Outcomes.{Flow, Normal, Gives, NoValue, Break, Continue, Return, Done, Outcome, Run, done, next, then_run, act, value_of, on_flow}
use Rattle.acpi_state.specs.Acts.{number_of}
use Rattle.acpi_state.specs.Loops.{is_true}
use Rattle.asl_tree.specs.declared.term.Literal.{Literal}
use Rattle.asl_tree.specs.Literals.{literal_number}
use Rattle.asl_tree.specs.Names.{Known}
use Rattle.asl_tree.specs.Tree.{Tree, Trees, no_trees, tree, Constant, If}
use Rattle.asl_tree.specs.Tree as T
use Rattle.asl_meaning.specs.Meaning as S
use Rattle.hidden_locals.specs.Worlds.{World, shown_for, shown_here, hidden_of, numbers, Clear, ClearFlow, AreBegun}
use Rattle.hidden_locals.specs.Runs.{Veiled, Everywhere, right, IsFine, From}
use Rattle.hidden_locals.specs.Steps.{local_in, local_of, set_local, Marked, Goes}
use Rattle.hidden_locals.specs.Turns.{local, stored, zero_word, one_word, loop_of}
use Rattle.hidden_locals.specs.Crossing.{FlagIs, FlagAfter, cross, past_break, NoContinue, FlagBehind, behind, value_at, until_break, Crossed, Looped, Keeping, KeepingAll}
use Rattle.hidden_locals.proofs.Worlds.{same_world}
use Rattle.hidden_locals.proofs.Taken.{outer_set, set_holds, left_set, fine_set, local_runs, stored_runs}
use Rattle.hidden_locals.proofs.Steps.{hidden_here, goes_then, goes_so, goes_done, IsTurned, goes_loop}
use Rattle.hidden_locals.proofs.Crossing.{remark, low_known}

module _ (convert : Trees → Trees) (IsKept : Trees → Type 0) (w : World) (k : ℕ) (width : Width) (known : Known) (turns : ℕ) (call call' : AbsolutePath → List Value → Run Trees Flow) where
  abbrev R' : Tree → AbsolutePath → Bool → Run Trees Flow
  R' = S.run width known turns call'

  abbrev L : Trees → AbsolutePath → Bool → Run Trees Flow
  L = S.run_all width known turns call

  abbrev L' : Trees → AbsolutePath → Bool → Run Trees Flow
  L' = S.run_all width known turns call'

  abbrev number : Literal → Value
  number literal = Data (Integer (literal_number width literal))

  -- the flag takes the number of a word
  flag_set : (literal : Literal) (scope : AbsolutePath) (due : Bool) (j : Veiled) → IsFine convert IsKept j → shown_here j.world k ≡ false →
      R' (stored (Constant literal) (local k)) scope due (right convert IsKept j) ≡ record { result = Done (Gives (number literal)); state = right convert IsKept (set_local k (number literal) j) }
  flag_set literal scope due j fine hidden = by_frames j.state.store.frames refl
    where
      by_frames : (fs : List Frame) → j.state.store.frames ≡ fs → R' (stored (Constant literal) (local k)) scope due (right convert IsKept j) ≡ record { result = Done (Gives (number literal)); state = right convert IsKept (set_local k (number literal) j) }
      by_frames [] e = absurd (let g : shown_for j.world [] k ≡ false = subst (λ ns. shown_for j.world ns k ≡ false) (sym fine.store.running ∙ ap numbers e) hidden in grind arith)
      by_frames (f ∷ fs) e = stored_runs width known turns call' (Constant literal) k scope due (right convert IsKept j) (right convert IsKept j) (number literal) refl f fs e

  set_ends : (literal : Literal) (j : Veiled) → k < 8 → IsFine convert IsKept j → shown_here j.world k ≡ false → local_of (set_local k (number literal) j) k ≡ Some (number literal)
  set_ends literal j lt fine hidden = set_holds j.world k (number literal) hidden lt j.state.store.frames fine.store.running fine.store.frames

  -- the other side does nothing
  abbrev nothing : Run Trees (Unit {0})
  nothing = done tt

  goes_set : (literal : Literal) (H : Option Value → Type 0) (scope : AbsolutePath) (due : Bool) → k < 8 → Goes convert IsKept (Marked w k H) (λ t u. Marked w k (λ o. o ≡ Some (number literal)) t) (λ u. Gives (number literal)) nothing (R' (stored (Constant literal) (local k)) scope due)
  goes_set literal H scope due lt =
      record {
        by = λ j fine m. record {
          result = Done tt;
          end = set_local k (number literal) j;
          later = same_world j.world;
          fine = fine_set convert IsKept k (number literal) j m.hidden tt fine;
          holds = record { later = m.later; hidden = m.hidden; holds = set_ends literal j lt fine m.hidden };
          keeps = ap (hidden_of j.world) (outer_set k (number literal) j.state.store.frames);
          left_is = ap (λ s. record { result = Done tt; state = s }) (sym (left_set convert IsKept k (number literal) j m.hidden fine));
          right_is = flag_set literal scope due j fine m.hidden;
        };
      }

  -- a test of the flag
  abbrev tested : Trees → AbsolutePath → Outcome Trees Flow → Outcome Trees Flow
  tested body scope o =
      let v = next o.result o.state value_of in
      let n = next v.result v.state (λ v. act (number_of width v)) in
      next n.result n.state (λ n. if is_true n then L' body scope false else done (Normal true))

  flag_if : (b : ℕ) (body : Trees) (scope : AbsolutePath) (due : Bool) (s : State Trees) → local_in s.store.frames k ≡ Some (Data (Integer b)) → R' (If (local k) body) scope due s ≡ (if is_true b then L' body scope false else done (Normal true)) s
  flag_if b body scope due s h = ap (tested body scope) (local_runs width known turns call' k (Data (Integer b)) s h scope false)

  -- a Continue inside a loop of one turn
  pub crossed_continue : (low : Bool) (rest rest' : Trees) (scope : AbsolutePath) (due : Bool) → k < 8 → Crossed convert IsKept w k true low (L (tree T.Continue rest) scope due) (L' (tree (stored one_word (local k)) (tree T.Break rest')) scope due)
  crossed_continue low rest rest' scope due lt =
      goes_then convert IsKept (λ t f. Marked w k (FlagAfter true low f) t × ClearFlow t.world f) (cross true) (λ f. on_flow f (L' (tree T.Break rest') scope)) (goes_set Literal.One (FlagIs low) scope due lt)
      (λ u. goes_done convert IsKept (λ t. Marked w k (λ o. o ≡ Some (number Literal.One)) t) (λ t f. Marked w k (FlagAfter true low f) t × ClearFlow t.world f) (cross true) Continue (λ j m. (m, tt)))

  -- behind an inner loop that a Continue crosses
  abbrev inner_tail : Trees → Trees
  inner_tail rest = tree (If (local k) (tree T.Break no_trees)) rest

  abbrev After : Bool → Bool → Veiled → Flow → Type 0
  After inside low t f = Marked w k (FlagAfter inside low f) t × ClearFlow t.world f

  -- a flag that is low: the terms behind the test follow
  low_tail : (inside low : Bool) (body rest rest' : Trees) (scope : AbsolutePath) → L' rest' scope true ≡ L' rest' scope false → Crossed convert IsKept w k inside low (L rest scope false) (L' rest' scope false) →
      Goes convert IsKept (Marked w k (FlagIs true)) (After inside low) (cross inside) (L rest scope false) (L' (tree (If (local k) body) rest') scope false)
  low_tail inside low body rest rest' scope due_same h =
      record {
        by = λ j fine m.
            let e = h.by j fine (remark w k (FlagIs true) (FlagIs low) j (λ o q. low_known low o q) m) in
            record {
              result = e.result;
              end = e.end;
              later = e.later;
              fine = e.fine;
              holds = e.holds;
              keeps = e.keeps;
              left_is = e.left_is;
              right_is = ap (λ (o : Outcome Trees Flow). next o.result o.state (λ f. on_flow f (L' rest' scope))) (flag_if 0 body scope false (right convert IsKept j) m.holds) ∙ ap (λ (m : Run Trees Flow). m (right convert IsKept j)) due_same ∙ e.right_is;
            };
      }

  pub crossed_inner : (X : Run Trees Flow) (loop : Tree) (rest rest' : Trees) (scope : AbsolutePath) (due : Bool) → L' rest' scope true ≡ L' rest' scope false → Looped convert IsKept w k X (R' loop scope due) → Crossed convert IsKept w k true true (L rest scope false) (L' rest' scope false) →
      Crossed convert IsKept w k true true (then_run X (λ f. on_flow f (L rest scope))) (L' (tree loop (inner_tail rest')) scope due)
  crossed_inner X loop rest rest' scope due due_same hx hs = goes_then convert IsKept (After true true) (cross true) (λ f. on_flow f (L' (inner_tail rest') scope)) hx (λ f. by_flow f)
    where
      by_flow : (f : Flow) → Goes convert IsKept (λ t. Marked w k (FlagBehind f) t × ClearFlow t.world f) (After true true) (cross true) (on_flow f (L rest scope)) (on_flow (behind f) (L' (inner_tail rest') scope))
      by_flow (Normal false) = goes_so convert IsKept (λ j m. m.0) (λ t f m. m) (low_tail true true (tree T.Break no_trees) rest rest' scope due_same hs)
      by_flow (Normal true) = record { by = λ j fine m. absurd m.0.holds }
      by_flow (Gives v) = record { by = λ j fine m. absurd m.0.holds }
      by_flow NoValue = record { by = λ j fine m. absurd m.0.holds }
      by_flow Break = record { by = λ j fine m. absurd m.0.holds }
      by_flow Continue = record { by = λ j fine m. record { result = Done Continue; end = j; later = same_world j.world; fine = fine; holds = m; keeps = refl; left_is = refl; right_is = ap (λ (o : Outcome Trees Flow). next o.result o.state (λ f. on_flow f (L' rest' scope))) (flag_if 1 (tree T.Break no_trees) scope false (right convert IsKept j) m.0.holds) } }
      by_flow (Return v) = goes_done convert IsKept (λ t. Marked w k (FlagBehind (Return v)) t × ClearFlow t.world (Return v)) (After true true) (cross true) (Return v) (λ j m. m)

  -- an outermost loop that a Continue crosses: the flag is low before it, and a Continue lowers it
  abbrev lowered_continue : Trees
  lowered_continue = tree (stored zero_word (local k)) (tree T.Continue no_trees)

  abbrev outer_tail : Trees → Trees
  outer_tail rest = tree (If (local k) lowered_continue) rest

  raised_tail : (low : Bool) (rest' : Trees) (scope : AbsolutePath) → k < 8 → Goes convert IsKept (λ t. Marked w k (FlagBehind Continue) t × ClearFlow t.world Continue) (After false low) (cross false) (done Continue) (L' (outer_tail rest') scope false)
  raised_tail low rest' scope lt =
      record {
        by = λ j fine m. record {
          result = Done Continue;
          end = set_local k (number Literal.Zero) j;
          later = same_world j.world;
          fine = fine_set convert IsKept k (number Literal.Zero) j m.0.hidden tt fine;
          holds = (record { later = m.0.later; hidden = m.0.hidden; holds = low_known low (local_of (set_local k (number Literal.Zero) j) k) (set_ends Literal.Zero j lt fine m.0.hidden) }, tt);
          keeps = ap (hidden_of j.world) (outer_set k (number Literal.Zero) j.state.store.frames);
          left_is = ap (λ s. record { result = Done Continue; state = s }) (sym (left_set convert IsKept k (number Literal.Zero) j m.0.hidden fine));
          right_is = ap (λ (o : Outcome Trees Flow). next o.result o.state (λ f. on_flow f (L' rest' scope)))
              (flag_if 1 lowered_continue scope false (right convert IsKept j) m.0.holds ∙ ap (λ (o : Outcome Trees Flow). next o.result o.state (λ f. on_flow f (L' (tree T.Continue no_trees) scope))) (flag_set Literal.Zero scope false j fine m.0.hidden));
        };
      }

  pub crossed_outer : (low : Bool) (X : Run Trees Flow) (loop : Tree) (rest rest' : Trees) (scope : AbsolutePath) (due : Bool) → k < 8 → L' rest' scope true ≡ L' rest' scope false → Looped convert IsKept w k X (R' loop scope false) → Crossed convert IsKept w k false low (L rest scope false) (L' rest' scope false) →
      Crossed convert IsKept w k false low (then_run X (λ f. on_flow f (L rest scope))) (L' (tree (stored zero_word (local k)) (tree loop (outer_tail rest'))) scope due)
  crossed_outer low X loop rest rest' scope due lt due_same hx hs =
      goes_then convert IsKept (After false low) (cross false) (λ f. on_flow f (L' (tree loop (outer_tail rest')) scope)) (goes_set Literal.Zero (FlagIs low) scope due lt)
      (λ u. goes_then convert IsKept (After false low) (cross false) (λ f. on_flow f (L' (outer_tail rest') scope)) hx (λ f. by_flow f))
    where
      by_flow : (f : Flow) → Goes convert IsKept (λ t. Marked w k (FlagBehind f) t × ClearFlow t.world f) (After false low) (cross false) (on_flow f (L rest scope)) (on_flow (behind f) (L' (outer_tail rest') scope))
      by_flow (Normal false) = goes_so convert IsKept (λ j m. m.0) (λ t f m. m) (low_tail false low lowered_continue rest rest' scope due_same hs)
      by_flow (Normal true) = record { by = λ j fine m. absurd m.0.holds }
      by_flow (Gives v) = record { by = λ j fine m. absurd m.0.holds }
      by_flow NoValue = record { by = λ j fine m. absurd m.0.holds }
      by_flow Break = record { by = λ j fine m. absurd m.0.holds }
      by_flow Continue = raised_tail low rest' scope lt
      by_flow (Return v) = goes_done convert IsKept (λ t. Marked w k (FlagBehind (Return v)) t × ClearFlow t.world (Return v)) (After false low) (cross false) (Return v) (λ j m. (remark w k (FlagIs true) (FlagIs low) j (λ o q. low_known low o q) m.0, m.1))

module _ (convert : Trees → Trees) (IsKept : Trees → Type 0) (w : World) (k : ℕ) (width : Width) (known : Known) (n : ℕ) (call call' : AbsolutePath → List Value → Run Trees Flow) where
  -- a value with which terms go on that Break leaves, and a loop of one turn that a Continue crosses
  pub looped_value : (i : ℕ) (value : Tree) (chain : Trees) (scope : AbsolutePath) (due : Bool) → i < 8 → nat_eq k i ≡ false → AreBegun w w.running → shown_here w i ≡ false → From convert IsKept Everywhere w Clear (λ v. v) (value_at width known (suc n) call value scope) (value_at width known (suc n) call' value scope) → (with_value : Value → Run Trees Flow) →
      ((v : Value) → Keeping convert IsKept w k i v (with_value v) (S.run_all width known (suc n) call' chain scope false)) →
      Looped convert IsKept w k (until_break (value_at width known (suc n) call value scope) with_value) (S.run width known (suc n) call' (loop_of value (local i) chain) scope due)
  looped_value i value chain scope due lt other begun hidden hv with_value hk =
      goes_so convert IsKept (λ j m. (hidden_here w j.world i begun m.later hidden, m)) (λ t f m. m)
      (goes_loop convert IsKept width known n call call' w i k (FlagIs true) value chain scope due lt other hv with_value (λ t f. Marked w k (FlagAfter true true f) t × ClearFlow t.world f) (λ t f. Marked w k (FlagBehind f) t × ClearFlow t.world f) (cross true) behind past_break hk (λ t f m. leaves t f m))
    where
      leaves : (t : Veiled) (f : Flow) → Marked w k (FlagAfter true true f) t × ClearFlow t.world f → (Marked w k (FlagBehind (past_break f)) t × ClearFlow t.world (past_break f)) × IsTurned (cross true f) (behind (past_break f))
      leaves t (Normal d) m = ((m.0, tt), refl)
      leaves t (Gives v) m = ((m.0, tt), refl)
      leaves t NoValue m = ((m.0, tt), refl)
      leaves t Break m = ((m.0, tt), refl)
      leaves t Continue m = ((m.0, tt), refl)
      leaves t (Return v) m = ((m.0, m.1), refl)

  -- the same where no Continue crosses it
  pub uncrossed_value : (inside low : Bool) (i : ℕ) (value : Tree) (chain : Trees) (scope : AbsolutePath) (due : Bool) → i < 8 → nat_eq k i ≡ false → AreBegun w w.running → shown_here w i ≡ false → From convert IsKept Everywhere w Clear (λ v. v) (value_at width known (suc n) call value scope) (value_at width known (suc n) call' value scope) → (with_value : Value → Run Trees Flow) →
      ((v : Value) → KeepingAll convert IsKept w k low i v (with_value v) (S.run_all width known (suc n) call' chain scope false)) →
      Crossed convert IsKept w k inside low (until_break (value_at width known (suc n) call value scope) with_value) (S.run width known (suc n) call' (loop_of value (local i) chain) scope due)
  uncrossed_value inside low i value chain scope due lt other begun hidden hv with_value hk =
      goes_so convert IsKept (λ j m. (hidden_here w j.world i begun m.later hidden, m)) (λ t f m. m)
      (goes_loop convert IsKept width known n call call' w i k (FlagIs low) value chain scope due lt other hv with_value (λ t f. (Marked w k (FlagAfter true low f) t × ClearFlow t.world f) × NoContinue f) (λ t f. Marked w k (FlagAfter inside low f) t × ClearFlow t.world f) (cross true) (cross inside) past_break hk (λ t f m. leaves t f m))
    where
      leaves : (t : Veiled) (f : Flow) → (Marked w k (FlagAfter true low f) t × ClearFlow t.world f) × NoContinue f → (Marked w k (FlagAfter inside low (past_break f)) t × ClearFlow t.world (past_break f)) × IsTurned (cross true f) (cross inside (past_break f))
      leaves t (Normal d) m = ((m.0.0, tt), refl)
      leaves t (Gives v) m = ((m.0.0, tt), refl)
      leaves t NoValue m = ((m.0.0, tt), refl)
      leaves t Break m = ((m.0.0, tt), refl)
      leaves t Continue m = absurd m.1
      leaves t (Return v) m = ((m.0.0, m.0.1), refl)
