-- What an answer of the compiler says.
use Rattle.std.specs.Prelude.{◌≡◌, ◌<◌, ◌≤◌, ◌⊎◌, ℕ, List, [], ◌∷◌, Ok, Err, ⊤}
use Rattle.std.specs.List.{All}
use Rattle.std.specs.declared.result.Result.{Result}
use Rattle.iasl_messages.specs.declared.place.Place.{Place}
use Rattle.iasl_messages.specs.declared.place.Line.{Line}
use Rattle.iasl_messages.specs.declared.message.Message.{Message}
use Rattle.iasl_messages.specs.declared.message.Stage.{Stage}
use Rattle.iasl_messages.specs.declared.message.Stage.TheVariants as stage
use Rattle.data_text.specs.Parts.{place_of}
use Rattle.data_text.specs.Source.{first_place}
use Rattle.data_tables.specs.declared.compiled.Compiled.{Compiled}
use Rattle.data_tables.specs.Compiling.{Answer}

-- the table, or exactly these messages; want of memory says nothing
abbrev pub Answers : Result Compiled Stage → Answer → Type 0
Answers (Ok table) answer = answer ≡ Ok table
Answers (Err (stage.Refused messages)) answer = answer ≡ Err messages
Answers (Err stage.Memory) answer = ⊤

-- each message stands in one of so many files
abbrev pub AreWithin : ℕ → List Message → Type 0
AreWithin files messages = All (λ m. m.place.file < files) messages

-- each note, or each message of a refusal, does
abbrev pub TellsWithin : ℕ → Result Compiled Stage → Type 0
TellsWithin files (Ok table) = AreWithin files table.notes
TellsWithin files (Err (stage.Refused messages)) = AreWithin files messages
TellsWithin files (Err stage.Memory) = ⊤

-- ---- what is told, whatever the text

-- a note is of a label that is not the field's (3005), or that no flag has (2002)
abbrev pub IsNote : Message → Type 0
IsNote note = (note.number ≡ 3005) ⊎ (note.number ≡ 2002)

abbrev pub IsFault : Message → Type 0
IsFault fault = (6090 ≤ fault.number) × (fault.number ≤ 6097)

-- a decoded line that disagrees (6096) goes before others; behind any other fault nothing is looked at
abbrev pub StopsAtOther : List Message → Type 0
StopsAtOther [] = ⊤
StopsAtOther (fault ∷ faults) = (faults ≡ []) ⊎ ((fault.number ≡ 6096) × StopsAtOther faults)

-- column 1 of a line, or line 1 of the first file
abbrev pub IsPlaceIn : List Line → Place → Type 0
IsPlaceIn [] place = place ≡ first_place
IsPlaceIn (line ∷ lines) place = (place ≡ place_of line) ⊎ IsPlaceIn lines place

-- the notes of a table, or the faults of a refusal, which are some; each stands in column 1 of a line
abbrev pub TellsOf : List Line → Result Compiled Stage → Type 0
TellsOf lines (Ok table) = All IsNote table.notes × All (λ (m : Message). IsPlaceIn lines m.place) table.notes
TellsOf lines (Err (stage.Refused messages)) = (messages ≡ [] → ⊥)
    × (All IsFault messages × (StopsAtOther messages × All (λ (m : Message). IsPlaceIn lines m.place) messages))
TellsOf lines (Err stage.Memory) = ⊤
