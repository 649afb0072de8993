-- What holds of each state: no line is too long, and each line and each note stands in a file that was fetched.
use Rattle.std.specs.Prelude.{ℕ, ◌<◌, ◌≤◌, length, All}
use Rattle.iasl_ports.specs.Fetched.{most_bytes}
use Rattle.iasl_messages.specs.declared.place.Line.{Line}
use Rattle.iasl_messages.specs.declared.message.Message.{Message}
use Rattle.asl_preprocess.specs.State.{State}

abbrev pub IsGoodLine : ℕ → Line → Type 0
IsGoodLine files line = (length line.text ≤ most_bytes) × (line.file < files)

abbrev pub IsGoodNote : ℕ → Message → Type 0
IsGoodNote files note = note.place.file < files

pub record IsSound (state : State) : Type 0 where
  pub lines : All (IsGoodLine (length state.files)) state.lines
  pub notes : All (IsGoodNote (length state.files)) state.notes
