-- Worlds that come later: what is clear stays clear, and what is hidden stays hidden.
use Rattle.std.proofs.Common.{◌≡◌, ℕ, suc, ◌<◌, Bool, true, false, List, [], ◌∷◌, length, Option, Some, None, refl, sym, ap, ◌∙◌, subst, arith}
use Rattle.std.specs.Prelude.{if◌then◌else◌, not, nat_eq}
use Rattle.std.proofs.lemmas.Bool.Decides.{nat_tests}
use Rattle.acpi_values.specs.Paths.{AbsolutePath}
use Rattle.acpi_values.specs.Values.{Value, Data, Package, Reference, Elements, no_elements, uninitialized, element, Place, Named, LocalOf, ArgOf, ElementAt, ElementOf}
use Rattle.acpi_state.specs.State.{Frame, Store}
use Rattle.acpi_state.specs.FieldUnits.{Source, Over, OverItsOwn}
use Rattle.acpi_state.specs.Objects.{Object, BufferFieldObject, Names}
use Rattle.acpi_state.specs.Outcomes.{Flow, Gives, Return}
use Rattle.acpi_state.specs.Stores.{Spot, Nowhere, DebugObject, At}
use Rattle.acpi_state.specs.Acts.{Operand, OfValue, OfKept, OfSpot, OfNumber}
use Rattle.hidden_locals.specs.Worlds.{World, shown_among, shown_at, shown_for, shown_here, mask, veiled, hide_frames, hidden_in, hidden_of, numbers, Clear, AreClear, ClearPlace, ClearHeld, ClearList, ClearAll, ClearOption}
use Rattle.hidden_locals.specs.Worlds.{ClearSpot, ClearOperand, ClearOperands, ClearFlow, ClearFrames, ClearStore, ClearValues, ClearSource, ClearObject, ClearNames, StaysShown, Later, begun_in, ended_in, AreBegun, Shows}

pub same_world : (w : World) → Later w w
same_world w = record { shown = record { longer = omega arith; by = λ n i lt. refl }; running = refl }

pub stays_then : (a b c : World) → StaysShown a b → StaysShown b c → StaysShown a c
stays_then a b c h k = record { longer = omega (arith, h.longer, k.longer); by = λ n i lt. k.by n i (omega (arith, lt, h.longer)) ∙ h.by n i lt }

pub later_then : (a b c : World) → Later a b → Later b c → Later a c
later_then a b c h k = record { shown = stays_then a b c h.shown k.shown; running = k.running ∙ h.running }

-- only activations that have begun have shown Locals
has_begun : (fs : List (ℕ → Bool)) (n i : ℕ) → shown_among fs n i ≡ true → n < length fs
has_begun [] n i h = absurd (grind arith)
has_begun (f ∷ fs) n i h = by_last (nat_eq n (length fs)) refl h (λ e. has_begun fs n i e)
  where
    by_last : (c : Bool) → nat_eq n (length fs) ≡ c → (if c then f i else shown_among fs n i) ≡ true → (shown_among fs n i ≡ true → n < length fs) → n < suc (length fs)
    by_last true e h go = let same : n ≡ length fs = grind (arith, nat_tests, e) in omega (arith, same)
    by_last false e h go = omega (arith, go h)

-- what is shown stays shown
pub stays_true : (w w' : World) → StaysShown w w' → (n i : ℕ) → shown_at w n i ≡ true → shown_at w' n i ≡ true
stays_true w w' stays n i h = stays.by n i (has_begun w.shown n i h) ∙ h

-- one more activation, and its end
pub stays_begun : (f : ℕ → Bool) (w : World) → StaysShown w (begun_in f w)
stays_begun f w = record { longer = omega arith; by = λ n i lt. by_last n i (nat_eq n (length w.shown)) refl lt }
  where
    by_last : (n i : ℕ) (c : Bool) → nat_eq n (length w.shown) ≡ c → n < length w.shown → (if c then f i else shown_among w.shown n i) ≡ shown_among w.shown n i
    by_last n i true e lt = let same : n ≡ length w.shown = grind (arith, nat_tests, e) in absurd (omega (arith, same, lt))
    by_last n i false e lt = refl

pub stays_ended : (w : World) → StaysShown w (ended_in w)
stays_ended w = record { longer = omega arith; by = λ n i lt. refl }

-- the Locals of the new activation
pub shown_begun : (f : ℕ → Bool) (w : World) (i : ℕ) → shown_here (begun_in f w) i ≡ f i
shown_begun f w i = by_same (nat_eq (length w.shown) (length w.shown)) refl
  where
    by_same : (c : Bool) → nat_eq (length w.shown) (length w.shown) ≡ c → (if c then f i else shown_among w.shown (length w.shown) i) ≡ f i
    by_same true e = refl
    by_same false e = absurd (grind (arith, nat_tests, e))

-- what is shown in the innermost activation stays so
pub here_later : (w w' : World) (i : ℕ) → Later w w' → shown_here w i ≡ true → shown_here w' i ≡ true
here_later w w' i later h = subst (λ ns. shown_for w' ns i ≡ true) (sym later.running) (by_running w.running h)
  where
    by_running : (ns : List ℕ) → shown_for w ns i ≡ true → shown_for w' ns i ≡ true
    by_running [] h = refl
    by_running (n ∷ ns) h = stays_true w w' later.shown n i h

module _ (w w' : World) (stays : StaysShown w w') where
  mutual
    pub clear_later : (v : Value) → Clear w v → Clear w' v
    clear_later (Data datum) h = tt
    clear_later (Package es) h = are_clear_later es h
    clear_later (Reference place) h = place_later place h

    pub are_clear_later : (es : Elements) → AreClear w es → AreClear w' es
    are_clear_later no_elements h = tt
    are_clear_later (uninitialized rest) h = are_clear_later rest h
    are_clear_later (element v rest) h = (clear_later v h.0, are_clear_later rest h.1)

    pub place_later : (place : Place) → ClearPlace w place → ClearPlace w' place
    place_later (Named path) h = tt
    place_later (LocalOf n i) h = stays_true w w' stays n i h
    place_later (ArgOf n i) h = tt
    place_later (ElementAt place i) h = place_later place h
    place_later (ElementOf v i) h = clear_later v h

  pub held_later : (o : Option Value) → ClearHeld w o → ClearHeld w' o
  held_later None h = tt
  held_later (Some v) h = clear_later v h

  pub list_later : (xs : List (Option Value)) → ClearList w xs → ClearList w' xs
  list_later [] h = tt
  list_later (x ∷ xs) h = (held_later x h.0, list_later xs h.1)

  pub values_later : (vs : List (AbsolutePath × Value)) → ClearValues w vs → ClearValues w' vs
  values_later [] h = tt
  values_later (v ∷ vs) h = (clear_later v.1 h.0, values_later vs h.1)

  pub all_later : (vs : List Value) → ClearAll w vs → ClearAll w' vs
  all_later [] h = tt
  all_later (v ∷ vs) h = (clear_later v h.0, all_later vs h.1)

  pub option_later : (o : Option Place) → ClearOption w o → ClearOption w' o
  option_later None h = tt
  option_later (Some place) h = place_later place h

  pub spot_later : (spot : Spot) → ClearSpot w spot → ClearSpot w' spot
  spot_later Nowhere h = tt
  spot_later DebugObject h = tt
  spot_later (At place) h = place_later place h

  pub operand_later : (o : Operand) → ClearOperand w o → ClearOperand w' o
  operand_later (OfValue v) h = clear_later v h
  operand_later (OfKept place v) h = (option_later place h.0, clear_later v h.1)
  operand_later (OfSpot spot) h = spot_later spot h
  operand_later (OfNumber n) h = tt

  pub operands_later : (os : List Operand) → ClearOperands w os → ClearOperands w' os
  operands_later [] h = tt
  operands_later (o ∷ os) h = (operand_later o h.0, operands_later os h.1)

  pub flow_later : (f : Flow) → ClearFlow w f → ClearFlow w' f
  flow_later (Gives v) h = clear_later v h
  flow_later (Return v) h = clear_later v h
  flow_later _ h = tt

  pub source_later : (source : Source) → ClearSource w source → ClearSource w' source
  source_later (Over place) h = place_later place h
  source_later OverItsOwn h = tt

  pub object_later : (object : Object) → ClearObject w object → ClearObject w' object
  object_later (BufferFieldObject field) h = source_later field.source h
  object_later _ h = tt

  pub names_later : (names : Names) → ClearNames w names → ClearNames w' names
  names_later [] h = tt
  names_later (entry ∷ entries) h = (object_later entry.1 h.0, names_later entries h.1)

-- frames that have begun, in a world with one more activation
module _ (f : ℕ → Bool) (w : World) where
  veiled_begun : (frame : Frame) → frame.number < length w.shown → veiled (begun_in f w) frame ≡ veiled w frame
  veiled_begun frame lt = by_last (nat_eq frame.number (length w.shown)) refl
    where
      by_last : (c : Bool) → nat_eq frame.number (length w.shown) ≡ c → record frame { locals = mask (λ i. if c then f i else shown_among w.shown frame.number i) 0 frame.locals } ≡ veiled w frame
      by_last true e = let same : frame.number ≡ length w.shown = grind (arith, nat_tests, e) in absurd (omega (arith, same, lt))
      by_last false e = refl

  pub hide_begun : (fs : List Frame) → ClearFrames w fs → hide_frames (begun_in f w) fs ≡ hide_frames w fs
  hide_begun [] h = refl
  hide_begun (x ∷ fs) h = ap (λ x. x ∷ hide_frames (begun_in f w) fs) (veiled_begun x h.2) ∙ ap (λ fs. veiled w x ∷ fs) (hide_begun fs h.4)

  pub frames_begun : (fs : List Frame) → ClearFrames w fs → ClearFrames (begun_in f w) fs
  frames_begun [] h = tt
  frames_begun (x ∷ fs) h = (list_later w (begun_in f w) (stays_begun f w) x.locals h.0, list_later w (begun_in f w) (stays_begun f w) x.args h.1, omega (arith, h.2), h.3, frames_begun fs h.4)

-- and in a world with one less
module _ (w : World) where
  pub hide_ended : (fs : List Frame) → hide_frames (ended_in w) fs ≡ hide_frames w fs
  hide_ended [] = refl
  hide_ended (x ∷ fs) = ap (λ fs. veiled w x ∷ fs) (hide_ended fs)

  pub frames_ended : (fs : List Frame) → ClearFrames w fs → ClearFrames (ended_in w) fs
  frames_ended [] h = tt
  frames_ended (x ∷ fs) h = (list_later w (ended_in w) (stays_ended w) x.locals h.0, list_later w (ended_in w) (stays_ended w) x.args h.1, h.2, h.3, frames_ended fs h.4)

-- what frames hide in a later world, where they have begun
pub frames_begin : (w : World) (fs : List Frame) → ClearFrames w fs → AreBegun w (numbers fs)
frames_begin w [] h = tt
frames_begin w (f ∷ fs) h = (h.2, frames_begin w fs h.4)

pub running_begun : (w : World) (s : Store) → ClearStore w s → AreBegun w w.running
running_begun w s cs = subst (λ ns. AreBegun w ns) cs.running (frames_begin w s.frames cs.frames)

mask_same : (f g : ℕ → Bool) (i : ℕ) (xs : List (Option Value)) → ((k : ℕ) → f k ≡ g k) → mask f i xs ≡ mask g i xs
mask_same f g i [] h = refl
mask_same f g i (x ∷ xs) h = ap (λ b. (if b then x else None) ∷ mask f (suc i) xs) (h i) ∙ ap (λ ys. (if g i then x else None) ∷ ys) (mask_same f g (suc i) xs h)

pub hidden_later : (w w' : World) → StaysShown w w' → (fs : List Frame) → AreBegun w (numbers fs) → hidden_of w' fs ≡ hidden_of w fs
hidden_later w w' stays [] h = refl
hidden_later w w' stays (f ∷ fs) h =
    ap (λ l. l ∷ hidden_of w' fs) (mask_same (λ i. not (shown_at w' f.number i)) (λ i. not (shown_at w f.number i)) 0 f.locals (λ i. ap (λ b. not b) (stays.by f.number i h.0)))
    ∙ ap (λ ls. hidden_in w f ∷ ls) (hidden_later w w' stays fs h.1)

-- the world of a new activation
pub begun_later : (w w' : World) → StaysShown w w' → (ns : List ℕ) → AreBegun w ns → AreBegun w' ns
begun_later w w' stays [] h = tt
begun_later w w' stays (n ∷ ns) h = (omega (arith, h.0, stays.longer), begun_later w w' stays ns h.1)

pub shows_begun : (shown : ℕ → Bool) (w : World) → AreBegun w w.running → Shows shown (begun_in shown w)
shows_begun shown w h = record { begun = (omega arith, begun_later w (begun_in shown w) (stays_begun shown w) w.running h); exact = shown_begun shown w }
