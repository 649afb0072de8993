-- Two runs that do the same from states of which something holds: for lists of which the other one uses hidden Locals.
use Rattle.std.specs.Prelude.{◌≡◌, ℕ, false, List, [], ◌∷◌, set, slice_get, Option, Some, None}
use Rattle.acpi_values.specs.Values.{Value}
use Rattle.acpi_state.specs.State.{Frame}
use Rattle.acpi_state.specs.Activations.{outer_of}
use Rattle.acpi_state.specs.Outcomes.{Result, Done, Stopped, map_result, Outcome, Run}
use Rattle.acpi_state.specs.Places.{slot}
use Rattle.asl_tree.specs.Tree.{Trees}
use Rattle.hidden_locals.specs.Worlds.{World, shown_here, hidden_of, Clear, Later}
use Rattle.hidden_locals.specs.Runs.{Veiled, left, right, IsFine}

-- what a Local of the innermost activation holds
abbrev pub local_in : List Frame → ℕ → Option Value
local_in [] i = None
local_in (f ∷ fs) i = slot (slice_get f.locals i)

abbrev pub local_of : Veiled → ℕ → Option Value
local_of j i = local_in j.state.store.frames i

-- the state with such a Local set
abbrev pub set_first : ℕ → Value → List Frame → List Frame
set_first i v [] = []
set_first i v (f ∷ fs) = record f { locals = set f.locals i (Some v) } ∷ fs

abbrev pub set_local : ℕ → Value → Veiled → Veiled
set_local i v j = record j { state = record j.state { store = record j.state.store { frames = set_first i v j.state.store.frames } } }

-- a hidden Local of the innermost activation, and what holds of what it holds
pub record Marked (w : World) (i : ℕ) (H : Option Value → Type 0) (j : Veiled) : Type 0 where
  pub later : Later w j.world
  pub hidden : shown_here j.world i ≡ false
  pub holds : H (local_of j i)

-- what holds of the value that the other side keeps in a hidden Local
pub record Taken (w : World) (i k : ℕ) (H : Option Value → Type 0) (t : Veiled) (v : Value) : Type 0 where
  pub clear : Clear t.world v
  pub hidden : shown_here t.world i ≡ false
  pub holds : local_of t i ≡ Some v
  pub other : Marked w k H t

module _ (convert : Trees → Trees) (IsKept : Trees → Type 0) where
  abbrev pub EndsAt : {A : Type 0} → (Veiled → A → Type 0) → Result A → Veiled → Type 0
  EndsAt After (Done a) t = After t a
  EndsAt After (Stopped x) t = Unit {0}

  -- two outcomes: the other side gives what `c` makes of the result, and what outer activations hide stays
  pub record Ended {A C : Type 0} (After : Veiled → A → Type 0) (c : A → C) (w : World) (start : List Frame) (o : Outcome Trees A)
      (o' : Outcome Trees C) : Type 0 where
    pub result : Result A
    pub end : Veiled
    pub later : Later w end.world
    pub fine : IsFine convert IsKept end
    pub holds : EndsAt After result end
    pub keeps : hidden_of w (outer_of end.state.store.frames) ≡ hidden_of w (outer_of start)
    pub left_is : o ≡ record { result = result; state = left convert IsKept end }
    pub right_is : o' ≡ record { result = map_result c result; state = right convert IsKept end }

  -- from each state of which the one holds two runs go to one of which the other holds
  pub record Goes {A C : Type 0} (Before : Veiled → Type 0) (After : Veiled → A → Type 0) (c : A → C) (m : Run Trees A) (m' : Run Trees C) :
      Type 0 where
    pub by : (j : Veiled) → IsFine convert IsKept j → Before j → Ended After c j.world j.state.store.frames (m (left convert IsKept j))
        (m' (right convert IsKept j))
