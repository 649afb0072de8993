-- What the reading of a file comes to, whether its contents are told or not.
use Rattle.std.specs.Prelude.{◌≡◌, ℕ, ◌<◌, ◌≤◌, List, length, ⊤, Option, Result, Ok, Err}
use Rattle.std.specs.Option.{ForSome}
use Rattle.iasl_ports.specs.Gained.{Named}
use Rattle.iasl_ports.specs.Counts.{Rose}
use Rattle.asl_directives.specs.declared.branches.Branch.{Branch}
use Rattle.asl_preprocess.specs.declared.work.Work.{Work}
use Rattle.asl_preprocess.specs.declared.stop.ReadingStop.{ReadingStop}
use Rattle.asl_preprocess.specs.declared.stop.ReadingStop.TheVariants.{At, ReadFault, Memory}
use Rattle.asl_preprocess.specs.State.{State, Pass, Outcome}
use Rattle.asl_preprocess.specs.Told.{Shows}
use Rattle.asl_preprocess.specs.Sound.{IsSound}

-- the code's state is this one, which is sound and has no fewer files than before
pub record Stands (work : Work) (state : State) (before : ℕ) : Type 0 where
  pub shows : Shows work state
  pub sound : IsSound state
  pub grows : before ≤ length state.files

-- the same within a file
pub record StandsIn (work : Work) (branches : List Branch) (pass : Pass) (before : ℕ) : Type 0 where
  pub stands : Stands work pass.state before
  pub branches_are : branches ≡ pass.branches

-- a first stop, which stands in a file that was fetched; or a file that could not be read, or want of memory
abbrev pub StopsAt : {X : Type 0} → ReadingStop → Option (List Named) → List (List ℕ) → (List Named → Outcome X) → Type 0
StopsAt (At message) contents files outcome = (message.place.file < length files)
    × ForSome contents (λ told. outcome told ≡ Err (message, files))
StopsAt ReadFault contents files outcome = ⊤
StopsAt Memory contents files outcome = ⊤

-- Something that this holds of is reached, and where contents are told it is exactly the definition's; or the reading
-- stops, exactly as the definition's.
abbrev pub Reaches : {X : Type 0} → Result (Unit {0}) ReadingStop → Option (List Named) → List (List ℕ) → (X → Type 0) →
    (List Named → Outcome X) → Type 0
Reaches {X} (Ok u) contents files Is outcome = (later : X) × Is later × ForSome contents (λ told. outcome told ≡ Ok later)
Reaches (Err stop) contents files Is outcome = StopsAt stop contents files outcome

-- the count of faults stays, but for a file that could not be read
abbrev pub Counts : ReadingStop → ℕ → ℕ → Type 0
Counts (At message) before now = now ≡ before
Counts ReadFault before now = Rose before now
Counts Memory before now = now ≡ before

-- the end of a file, or a refusal there
abbrev pub EndsAt : ReadingStop → List (List ℕ) → Outcome State → Type 0
EndsAt (At message) files outcome = outcome ≡ Err (message, files)
EndsAt ReadFault files outcome = ⊥
EndsAt Memory files outcome = ⊤

-- a refusal in this file
abbrev pub InFile : ReadingStop → ℕ → Type 0
InFile (At message) file = message.place.file ≡ file
InFile ReadFault file = ⊤
InFile Memory file = ⊤

abbrev pub EndsFile : Result (Unit {0}) ReadingStop → ℕ → Outcome State → State → Type 0
EndsFile (Ok u) file outcome state = outcome ≡ Ok state
EndsFile (Err stop) file outcome state = EndsAt stop state.files outcome × InFile stop file
