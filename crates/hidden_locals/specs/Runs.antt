-- Two runs that do the same but for hidden Locals, from every later world.
use Rattle.std.specs.Prelude.{◌≡◌, List, [], ◌∷◌, length, Option}
use Rattle.acpi_values.specs.Paths.{AbsolutePath}
use Rattle.acpi_values.specs.Values.{Value}
use Rattle.acpi_state.specs.State.{Frame, State}
use Rattle.acpi_state.specs.Activations.{outer_of}
use Rattle.acpi_state.specs.Outcomes.{Result, Done, Stopped, map_result, Outcome, Run}
use Rattle.asl_tree.specs.Tree.{Trees}
use Rattle.hidden_locals.specs.Worlds.{World, hide, hidden_of, ClearNames, ClearStore, Later}

-- a world and a state in it, in which nothing is hidden
pub record Veiled : Type 0 where
  pub world : World
  pub state : State Trees

-- the activations whose hidden Locals keep what they hold: all that run, or all but the innermost one
pub data Reach : Type 0 where
  Everywhere Outside : Reach

abbrev pub kept_in : Reach → World → List Frame → List (List (Option Value))
kept_in Everywhere w fs = hidden_of w fs
kept_in Outside w fs = hidden_of w (outer_of fs)

-- the one side hides, and keeps bodies as they are; the other has the same with each body converted, and nothing hidden
module _ (convert : Trees → Trees) (IsKept : Trees → Type 0) where
  abbrev pub converted : List (AbsolutePath × Trees) → List (AbsolutePath × Trees)
  converted [] = []
  converted (entry ∷ entries) = (entry.0, convert entry.1) ∷ converted entries

  abbrev pub AreKept : List (AbsolutePath × Trees) → Type 0
  AreKept [] = Unit {0}
  AreKept (entry ∷ entries) = IsKept entry.1 × AreKept entries

  abbrev pub left : Veiled → State Trees
  left j = record j.state { store = hide j.world j.state.store }

  abbrev pub right : Veiled → State Trees
  right j = record j.state { bodies = converted j.state.bodies }

  -- what always holds
  pub record IsFine (j : Veiled) : Type 0 where
    pub names : ClearNames j.world j.state.names
    pub store : ClearStore j.world j.state.store
    pub begun : length j.world.shown ≡ j.state.begun
    pub bodies : AreKept j.state.bodies

  abbrev pub Ends : {A : Type 0} → (World → A → Type 0) → Result A → Veiled → Type 0
  Ends P (Done a) j = P j.world a
  Ends P (Stopped x) j = Unit {0}

  -- two outcomes are the same, the result has the property in the world at its end, and hidden Locals keep what they hold
  pub record Joint (reach : Reach) {A C : Type 0} (P : World → A → Type 0) (c : A → C) (w : World) (start : List Frame)
      (o : Outcome Trees A) (o' : Outcome Trees C) : Type 0 where
    pub result : Result A
    pub end : Veiled
    pub later : Later w end.world
    pub fine : IsFine end
    pub holds : Ends P result end
    pub keeps : kept_in reach w end.state.store.frames ≡ kept_in reach w start
    pub left_is : o ≡ record { result = result; state = left end }
    pub right_is : o' ≡ record { result = map_result c result; state = right end }

  -- two runs that do the same from each world that is later than this one
  pub record From (reach : Reach) (w : World) {A C : Type 0} (P : World → A → Type 0) (c : A → C) (m : Run Trees A) (m' : Run Trees C) :
      Type 0 where
    pub by : (j : Veiled) → Later w j.world → IsFine j → Joint reach P c j.world j.state.store.frames (m (left j)) (m' (right j))
