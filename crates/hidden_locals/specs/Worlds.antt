-- Locals that are hidden: which these are depends on the activation, so that all is said in a world.
use Rattle.std.specs.Prelude.{◌≡◌, ℕ, suc, ◌<◌, ◌≤◌, Bool, true, false, not, nat_eq, if◌then◌else◌, List, [], ◌∷◌, length, Option, Some}
use Rattle.std.specs.Prelude.{None}
use Rattle.acpi_values.specs.Paths.{AbsolutePath}
use Rattle.acpi_values.specs.Values.{Value, Data, Package, Reference, Elements, no_elements, uninitialized, element, Place, Named, LocalOf}
use Rattle.acpi_values.specs.Values.{ArgOf, ElementAt, ElementOf}
use Rattle.acpi_state.specs.State.{Frame, Store}
use Rattle.acpi_state.specs.FieldUnits.{Source, Over, OverItsOwn}
use Rattle.acpi_state.specs.Objects.{Object, BufferFieldObject, Names}
use Rattle.acpi_state.specs.Outcomes.{Flow, Gives, Return}
use Rattle.acpi_state.specs.Activations.{outer_of}
use Rattle.acpi_state.specs.Stores.{Spot, Nowhere, DebugObject, At}
use Rattle.acpi_state.specs.Acts.{Operand, OfValue, OfKept, OfSpot, OfNumber}

-- the shown Locals, which are not hidden, of each activation that has begun, the last first; and the numbers of the activations
-- that run, the innermost first
pub record World : Type 0 where
  pub shown : List (ℕ → Bool)
  pub running : List ℕ

-- of an activation that has not begun no Local is shown
abbrev pub shown_among : List (ℕ → Bool) → ℕ → ℕ → Bool
shown_among [] n i = false
shown_among (f ∷ fs) n i = if nat_eq n (length fs) then f i else shown_among fs n i

abbrev pub shown_at : World → ℕ → ℕ → Bool
shown_at w n i = shown_among w.shown n i

-- the same of the innermost activation; where none runs nothing is hidden
abbrev pub shown_for : World → List ℕ → ℕ → Bool
shown_for w [] i = true
shown_for w (n ∷ ns) i = shown_at w n i

abbrev pub shown_here : World → ℕ → Bool
shown_here w = shown_for w w.running

-- Locals with those hidden that are not shown
abbrev pub mask : (ℕ → Bool) → ℕ → List (Option Value) → List (Option Value)
mask shown i [] = []
mask shown i (x ∷ xs) = (if shown i then x else None) ∷ mask shown (suc i) xs

abbrev pub veiled : World → Frame → Frame
veiled w f = record f { locals = mask (shown_at w f.number) 0 f.locals }

abbrev pub hide_frames : World → List Frame → List Frame
hide_frames w [] = []
hide_frames w (f ∷ fs) = veiled w f ∷ hide_frames w fs

abbrev pub hide : World → Store → Store
hide w s = record s { frames = hide_frames w s.frames }

-- what the hidden Locals of frames hold, each where it stands
abbrev pub hidden_in : World → Frame → List (Option Value)
hidden_in w f = mask (λ i. not (shown_at w f.number i)) 0 f.locals

abbrev pub hidden_of : World → List Frame → List (List (Option Value))
hidden_of w [] = []
hidden_of w (f ∷ fs) = hidden_in w f ∷ hidden_of w fs

-- no Reference to a hidden Local, or to a place inside one
abbrev mutual
  pub Clear : World → Value → Type 0
  Clear w (Data datum) = Unit {0}
  Clear w (Package elements) = AreClear w elements
  Clear w (Reference place) = ClearPlace w place

  pub AreClear : World → Elements → Type 0
  AreClear w no_elements = Unit {0}
  AreClear w (uninitialized rest) = AreClear w rest
  AreClear w (element v rest) = Clear w v × AreClear w rest

  pub ClearPlace : World → Place → Type 0
  ClearPlace w (Named path) = Unit {0}
  ClearPlace w (LocalOf n i) = shown_at w n i ≡ true
  ClearPlace w (ArgOf n i) = Unit {0}
  ClearPlace w (ElementAt place i) = ClearPlace w place
  ClearPlace w (ElementOf v i) = Clear w v

abbrev pub ClearHeld : World → Option Value → Type 0
ClearHeld w None = Unit {0}
ClearHeld w (Some v) = Clear w v

abbrev pub ClearList : World → List (Option Value) → Type 0
ClearList w [] = Unit {0}
ClearList w (x ∷ xs) = ClearHeld w x × ClearList w xs

abbrev pub ClearAll : World → List Value → Type 0
ClearAll w [] = Unit {0}
ClearAll w (v ∷ vs) = Clear w v × ClearAll w vs

abbrev pub ClearOption : World → Option Place → Type 0
ClearOption w None = Unit {0}
ClearOption w (Some place) = ClearPlace w place

abbrev pub ClearSpot : World → Spot → Type 0
ClearSpot w Nowhere = Unit {0}
ClearSpot w DebugObject = Unit {0}
ClearSpot w (At place) = ClearPlace w place

abbrev pub ClearOperand : World → Operand → Type 0
ClearOperand w (OfValue v) = Clear w v
ClearOperand w (OfKept place v) = ClearOption w place × Clear w v
ClearOperand w (OfSpot spot) = ClearSpot w spot
ClearOperand w (OfNumber n) = Unit {0}

abbrev pub ClearOperands : World → List Operand → Type 0
ClearOperands w [] = Unit {0}
ClearOperands w (o ∷ os) = ClearOperand w o × ClearOperands w os

abbrev pub ClearFlow : World → Flow → Type 0
ClearFlow w (Gives v) = Clear w v
ClearFlow w (Return v) = Clear w v
ClearFlow w _ = Unit {0}

-- the state: what it holds is clear, and the activations are those that run
abbrev pub ClearFrames : World → List Frame → Type 0
ClearFrames w [] = Unit {0}
ClearFrames w (f ∷ fs) = ClearList w f.locals × ClearList w f.args × (f.number < length w.shown) × (length f.locals ≡ 8) × ClearFrames w fs

abbrev pub numbers : List Frame → List ℕ
numbers [] = []
numbers (f ∷ fs) = f.number ∷ numbers fs

abbrev pub ClearValues : World → List (AbsolutePath × Value) → Type 0
ClearValues w [] = Unit {0}
ClearValues w (entry ∷ entries) = Clear w entry.1 × ClearValues w entries

pub record ClearStore (w : World) (s : Store) : Type 0 where
  pub values : ClearValues w s.values
  pub frames : ClearFrames w s.frames
  pub running : numbers s.frames ≡ w.running
  pub answers : ClearAll w s.answers

abbrev pub ClearSource : World → Source → Type 0
ClearSource w (Over place) = ClearPlace w place
ClearSource w OverItsOwn = Unit {0}

abbrev pub ClearObject : World → Object → Type 0
ClearObject w (BufferFieldObject field) = ClearSource w field.source
ClearObject w _ = Unit {0}

abbrev pub ClearNames : World → Names → Type 0
ClearNames w [] = Unit {0}
ClearNames w (entry ∷ entries) = ClearObject w entry.1 × ClearNames w entries

-- activations may have begun since, and those that had begun show what they did
pub record StaysShown (w w' : World) : Type 0 where
  pub longer : length w.shown ≤ length w'.shown
  pub by : (n i : ℕ) → n < length w.shown → shown_at w' n i ≡ shown_at w n i

-- what comes later: the same activations run
pub record Later (w w' : World) : Type 0 where
  pub shown : StaysShown w w'
  pub running : w'.running ≡ w.running

-- the world in which an activation begins whose shown Locals are these, and the world after it
abbrev pub begun_in : (ℕ → Bool) → World → World
begun_in f w = record { shown = f ∷ w.shown; running = length w.shown ∷ w.running }

abbrev pub ended_in : World → World
ended_in w = record w { running = outer_of w.running }

-- activations of some numbers have begun
abbrev pub AreBegun : World → List ℕ → Type 0
AreBegun w [] = Unit {0}
AreBegun w (n ∷ ns) = (n < length w.shown) × AreBegun w ns

-- exactly these Locals of the innermost activation are shown
pub record Shows (shown : ℕ → Bool) (w : World) : Type 0 where
  pub begun : AreBegun w w.running
  pub exact : (i : ℕ) → shown_here w i ≡ shown i
