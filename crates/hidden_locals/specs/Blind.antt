-- Actions that do the same where Locals are hidden.
use Rattle.std.specs.Prelude.{◌≡◌, Result, Ok, Err}
use Rattle.acpi_values.specs.declared.fault.Fault.{Fault}
use Rattle.acpi_state.specs.State.{Store}
use Rattle.acpi_state.specs.Objects.{Names}
use Rattle.acpi_state.specs.Outcomes.{Step, Steps, Fails, Waits, Action}
use Rattle.hidden_locals.specs.Worlds.{World, hide, hidden_of, ClearStore, ClearNames}

-- what is given has the property
abbrev pub Given : {A : Type 0} → (A → Type 0) → Step A → Type 0
Given P (Steps a) = P a
Given P (Fails f) = Unit {0}
Given P Waits = Unit {0}

abbrev pub GivenOk : {A : Type 0} → (A → Type 0) → Result A Fault → Type 0
GivenOk P (Ok a) = P a
GivenOk P (Err f) = Unit {0}

-- what an action gives and leaves, without and with the Locals hidden; it keeps what these hold
pub record BlindAt (w : World) {A : Type 0} (P : A → Type 0) (s : Store) (r r' : Step A × Store) : Type 0 where
  pub same : r' ≡ (r.0, hide w r.1)
  pub result : Given P r.0
  pub store : ClearStore w r.1
  pub keeps : hidden_of w r.1.frames ≡ hidden_of w s.frames

-- an action that does the same where the Locals are hidden, and keeps all clear
pub record Blind (w : World) {A : Type 0} (P : A → Type 0) (a : Action A) : Type 0 where
  pub by : (names : Names) (s : Store) → ClearNames w names → ClearStore w s → BlindAt w P s (a names s) (a names (hide w s))
