-- What an answer of the compiler of generic tables tells.
use Rattle.std.specs.Prelude.{◌≡◌, List, [], ◌∷◌, Ok, Err, ⊤}
use Rattle.std.specs.List.{All}
use Rattle.std.specs.declared.result.Result.{Result}
use Rattle.iasl_messages.specs.declared.place.Place.{Place}
use Rattle.iasl_messages.specs.declared.place.Line.{Line}
use Rattle.iasl_messages.specs.declared.message.Message.{Message}
use Rattle.iasl_messages.specs.declared.message.Stage.{Stage}
use Rattle.iasl_messages.specs.declared.message.Stage.TheVariants as stage
use Rattle.data_tables.specs.declared.compiled.Compiled.{Compiled}
use Rattle.data_tables.specs.Promise.{IsPlaceIn}

-- one message, at such a place
abbrev pub IsOne : (Place → Type 0) → List Message → Type 0
IsOne Home messages = (m : Message) × (messages ≡ m ∷ []) × Home m.place

-- A note is of a label that is not the header's (3005), and a refusal is one message. Each stands in column 1 of a line.
abbrev pub TellsOne : List Line → Result Compiled Stage → Type 0
TellsOne lines (Ok table) = All (λ (m : Message). m.number ≡ 3005) table.notes × All (λ (m : Message). IsPlaceIn lines m.place) table.notes
TellsOne lines (Err (stage.Refused messages)) = IsOne (IsPlaceIn lines) messages
TellsOne lines (Err stage.Memory) = ⊤
