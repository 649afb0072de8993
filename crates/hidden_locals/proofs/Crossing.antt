-- Lists of terms with a flag, put together.
use Rattle.std.proofs.Common.{◌≡◌, ℕ, zero, suc, Bool, true, false, Option, refl, ap, ◌∙◌}
use Rattle.std.specs.Prelude.{if◌then◌else◌}
use Rattle.acpi_values.specs.declared.width.Width.{Width}
use Rattle.acpi_values.specs.Values.{Value}
use Rattle.acpi_state.specs.Outcomes.{Flow, Normal, Gives, NoValue, Break, Continue, Return, Unfinished, Result, Done, Stopped, map_result, Run, done, then_run, on_flow}
use Rattle.acpi_state.specs.Loops.{is_true, after_turn, loop}
use Rattle.asl_tree.specs.Names.{Known}
use Rattle.asl_tree.specs.Tree.{Trees}
use Rattle.asl_meaning.specs.Meaning as S
use Rattle.hidden_locals.specs.Worlds.{World, ClearFlow}
use Rattle.hidden_locals.specs.Runs.{Veiled, Everywhere, right, From}
use Rattle.hidden_locals.specs.Steps.{local_of, Marked, EndsAt, Goes}
use Rattle.hidden_locals.specs.Crossing.{FlagIs, FlagAfter, cross, NoContinue, Crossed}
use Rattle.hidden_locals.proofs.Worlds.{same_world}
use Rattle.hidden_locals.proofs.Runs.{Any}
use Rattle.hidden_locals.proofs.Parts.{from_size}
use Rattle.hidden_locals.proofs.Steps.{goes_from, goes_then, goes_so, goes_to, goes_done}

abbrev pub ClearNoContinue : World → Flow → Type 0
ClearNoContinue w f = ClearFlow w f × NoContinue f

pub cross_same : (inside : Bool) (f : Flow) → NoContinue f → f ≡ cross inside f
cross_same inside Continue h = absurd h
cross_same inside f h = refl

cross_none : (f : Flow) → f ≡ cross false f
cross_none Continue = refl
cross_none f = refl

pub after_same : (inside low : Bool) (f : Flow) (o : Option Value) → NoContinue f → FlagIs low o → FlagAfter inside low f o
after_same inside low Continue o h k = absurd h
after_same inside low f o h k = k

after_none : (low : Bool) (f : Flow) (o : Option Value) → FlagIs low o → FlagAfter false low f o
after_none low Continue o k = k
after_none low f o k = k

none_after : (low : Bool) (f : Flow) (o : Option Value) → FlagAfter false low f o → FlagIs low o
none_after low Continue o k = k
none_after low f o k = k

pub low_known : (low : Bool) (o : Option Value) → FlagIs true o → FlagIs low o
low_known true o h = h
low_known false o h = tt

pub remark : (w : World) (k : ℕ) (H H' : Option Value → Type 0) (j : Veiled) → ((o : Option Value) → H o → H' o) → Marked w k H j → Marked w k H' j
remark w k H H' j f m = record { later = m.later; hidden = m.hidden; holds = f (local_of j k) m.holds }

module _ (convert : Trees → Trees) (IsKept : Trees → Type 0) (w : World) (k : ℕ) where
  -- a term that no Continue leaves, and any term that stands in no loop of one turn
  ended_as : {Before : Veiled → Type 0} {P : Veiled → Flow → Type 0} (After : Veiled → Flow → Type 0) (c : Flow → Flow) {m m' : Run Trees Flow} → ((t : Veiled) (f : Flow) → P t f → After t f × (f ≡ c f)) → Goes convert IsKept Before P (λ f. f) m m' → Goes convert IsKept Before After c m m'
  ended_as {P = P} After c {m' = m'} h g = record { by = λ j fine before. let e = g.by j fine before in record { result = e.result; end = e.end; later = e.later; fine = e.fine; holds = holds e.result e.end e.holds; keeps = e.keeps; left_is = e.left_is; right_is = e.right_is ∙ ap (λ r. record { result = r; state = right convert IsKept e.end }) (same e.result e.end e.holds) } }
    where
      holds : (r : Result Flow) (t : Veiled) → EndsAt convert IsKept P r t → EndsAt convert IsKept After r t
      holds (Done f) t p = (h t f p).0
      holds (Stopped x) t p = tt

      same : (r : Result Flow) (t : Veiled) → EndsAt convert IsKept P r t → map_result (λ f. f) r ≡ map_result c r
      same (Done f) t p = ap (λ f. Done f) (h t f p).1
      same (Stopped x) t p = refl

  pub crossed_term : (inside low : Bool) {m m' : Run Trees Flow} → From convert IsKept Everywhere w ClearNoContinue (λ f. f) m m' → Crossed convert IsKept w k inside low m m'
  crossed_term inside low h =
      ended_as (λ t f. Marked w k (FlagAfter inside low f) t × ClearFlow t.world f) (cross inside) (λ t f p. ((remark w k (FlagIs low) (FlagAfter inside low f) t (λ o q. after_same inside low f o p.1.1 q) p.0, p.1.0), cross_same inside f p.1.1)) (goes_from convert IsKept w k (FlagIs low) h)

  pub crossed_outside : (low : Bool) {m m' : Run Trees Flow} → From convert IsKept Everywhere w ClearFlow (λ f. f) m m' → Crossed convert IsKept w k false low m m'
  crossed_outside low h =
      ended_as (λ t f. Marked w k (FlagAfter false low f) t × ClearFlow t.world f) (cross false) (λ t f p. ((remark w k (FlagIs low) (FlagAfter false low f) t (λ o q. after_none low f o q) p.0, p.1), cross_none f)) (goes_from convert IsKept w k (FlagIs low) h)

  -- a flow that nothing follows
  crossed_done : (inside low : Bool) (f : Flow) → NoContinue f → ((v : World) → ClearFlow v f) → Crossed convert IsKept w k inside low (done f) (done f)
  crossed_done inside low f h clear =
      goes_to convert IsKept (ap (λ f. done f) (cross_same inside f h)) (goes_done convert IsKept (Marked w k (FlagIs low)) (λ t f. Marked w k (FlagAfter inside low f) t × ClearFlow t.world f) (cross inside) f (λ j m. (remark w k (FlagIs low) (FlagAfter inside low f) j (λ o q. after_same inside low f o h q) m, clear j.world)))

  pub crossed_end : (inside low : Bool) → Crossed convert IsKept w k inside low (done (Normal false)) (done (Normal false))
  crossed_end inside low = crossed_done inside low (Normal false) tt (λ v. tt)

  -- a term, and those behind it
  pub crossed_first : (inside low : Bool) {m m' : Run Trees Flow} {go go' : Bool → Run Trees Flow} → Crossed convert IsKept w k inside low m m' → ((d : Bool) → Crossed convert IsKept w k inside low (go d) (go' d)) →
      Crossed convert IsKept w k inside low (then_run m (λ f. on_flow f go)) (then_run m' (λ f. on_flow f go'))
  crossed_first inside low {go = go} {go' = go'} h hs = goes_then convert IsKept (λ t f. Marked w k (FlagAfter inside low f) t × ClearFlow t.world f) (cross inside) (λ f. on_flow f go') h (λ f. by_flow f)
    where
      passed : (inside : Bool) → Goes convert IsKept (λ t. Marked w k (FlagAfter inside low Continue) t × ClearFlow t.world Continue) (λ t f. Marked w k (FlagAfter inside low f) t × ClearFlow t.world f) (cross inside) (done Continue) (on_flow (cross inside Continue) go')
      passed true = goes_done convert IsKept (λ t. Marked w k (FlagAfter true low Continue) t × ClearFlow t.world Continue) (λ t f. Marked w k (FlagAfter true low f) t × ClearFlow t.world f) (cross true) Continue (λ j m. m)
      passed false = goes_done convert IsKept (λ t. Marked w k (FlagAfter false low Continue) t × ClearFlow t.world Continue) (λ t f. Marked w k (FlagAfter false low f) t × ClearFlow t.world f) (cross false) Continue (λ j m. m)

      by_flow : (f : Flow) → Goes convert IsKept (λ t. Marked w k (FlagAfter inside low f) t × ClearFlow t.world f) (λ t f. Marked w k (FlagAfter inside low f) t × ClearFlow t.world f) (cross inside) (on_flow f go) (on_flow (cross inside f) go')
      by_flow (Normal d) = goes_so convert IsKept (λ j m. m.0) (λ t f m. m) (hs d)
      by_flow (Gives v) = goes_so convert IsKept (λ j m. m.0) (λ t f m. m) (hs false)
      by_flow NoValue = goes_so convert IsKept (λ j m. m.0) (λ t f m. m) (hs false)
      by_flow Break = goes_done convert IsKept (λ t. Marked w k (FlagAfter inside low Break) t × ClearFlow t.world Break) (λ t f. Marked w k (FlagAfter inside low f) t × ClearFlow t.world f) (cross inside) Break (λ j m. m)
      by_flow Continue = passed inside
      by_flow (Return v) = goes_done convert IsKept (λ t. Marked w k (FlagAfter inside low (Return v)) t × ClearFlow t.world (Return v)) (λ t f. Marked w k (FlagAfter inside low f) t × ClearFlow t.world f) (cross inside) (Return v) (λ j m. m)

  -- a test that both make
  pub crossed_if : (inside low : Bool) (b : Bool) {m n m' n' : Run Trees Flow} → Crossed convert IsKept w k inside low m m' → Crossed convert IsKept w k inside low n n' → Crossed convert IsKept w k inside low (if b then m else n) (if b then m' else n')
  crossed_if inside low true h g = h
  crossed_if inside low false h g = g

  pub crossed_tested : (inside low : Bool) {A : Type 0} {m m' : Run Trees A} {go go' : A → Run Trees Flow} → From convert IsKept Everywhere w Any (λ a. a) m m' → ((a : A) → Crossed convert IsKept w k inside low (go a) (go' a)) → Crossed convert IsKept w k inside low (then_run m go) (then_run m' go')
  crossed_tested inside low {go' = go'} h hs =
      goes_then convert IsKept (λ t f. Marked w k (FlagAfter inside low f) t × ClearFlow t.world f) (cross inside) go' (goes_from convert IsKept w k (FlagIs low) h) (λ a. goes_so convert IsKept (λ j m. m.0) (λ t f m. m) (hs a))

  pub crossed_branch : (inside low : Bool) (width : Width) (known : Known) {m m' b b' : Run Trees Flow} → From convert IsKept Everywhere w ClearFlow (λ f. f) m m' → Crossed convert IsKept w k inside low b b' →
      Crossed convert IsKept w k inside low (then_run (S.size_by width known m) (λ n. if is_true n then b else done (Normal true))) (then_run (S.size_by width known m') (λ n. if is_true n then b' else done (Normal true)))
  crossed_branch inside low width known h hb = crossed_tested inside low (from_size convert IsKept Everywhere w width known h) (λ n. crossed_if inside low (is_true n) hb (crossed_done inside low (Normal true) tt (λ v. tt)))

  -- a While, whose terms stand in no loop of one turn but their own
  pub crossed_loop : (inside low : Bool) (n : ℕ) (test test' : Run Trees (Bool × Unit {0})) (body body' : Run Trees Flow) → From convert IsKept Everywhere w Any (λ b. b) test test' → Crossed convert IsKept w k false low body body' → Crossed convert IsKept w k inside low (loop n test (λ u. body)) (loop n test' (λ u. body'))
  crossed_loop inside low zero test test' body body' ht hb =
      crossed_tested inside low ht (λ b. crossed_if inside low b.0 (record { by = λ j fine mark. record { result = Stopped Unfinished; end = j; later = same_world j.world; fine = fine; holds = tt; keeps = refl; left_is = refl; right_is = refl } }) (crossed_end inside low))
  crossed_loop inside low (suc n) test test' body body' ht hb =
      crossed_tested inside low ht (λ b. crossed_if inside low b.0 (goes_then convert IsKept (λ t f. Marked w k (FlagAfter inside low f) t × ClearFlow t.world f) (cross inside) (λ f. after_turn f (loop n test' (λ u. body'))) hb (λ f. by_flow f (crossed_loop inside low n test test' body body' ht hb))) (crossed_end inside low))
    where
      by_flow : (f : Flow) → Crossed convert IsKept w k inside low (loop n test (λ u. body)) (loop n test' (λ u. body')) → Goes convert IsKept (λ t. Marked w k (FlagAfter false low f) t × ClearFlow t.world f) (λ t f. Marked w k (FlagAfter inside low f) t × ClearFlow t.world f) (cross inside) (after_turn f (loop n test (λ u. body))) (after_turn (cross false f) (loop n test' (λ u. body')))
      by_flow (Normal d) go = goes_so convert IsKept (λ j m. m.0) (λ t f m. m) go
      by_flow (Gives v) go = goes_so convert IsKept (λ j m. m.0) (λ t f m. m) go
      by_flow NoValue go = goes_so convert IsKept (λ j m. m.0) (λ t f m. m) go
      by_flow Break go = goes_so convert IsKept (λ j m. m.0) (λ t f m. m) (crossed_end inside low)
      by_flow Continue go = goes_so convert IsKept (λ j m. m.0) (λ t f m. m) go
      by_flow (Return v) go = goes_done convert IsKept (λ t. Marked w k (FlagAfter false low (Return v)) t × ClearFlow t.world (Return v)) (λ t f. Marked w k (FlagAfter inside low f) t × ClearFlow t.world f) (cross inside) (Return v) (λ j m. m)
