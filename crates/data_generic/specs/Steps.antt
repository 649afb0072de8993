-- What the walk over the data lines has and will have.
use Rattle.std.specs.Prelude.{◌≡◌, ℕ, List, ◌++◌, map, Ok, Err}
use Rattle.iasl_messages.specs.declared.message.Message.{Message}
use Rattle.iasl_messages.specs.declared.place.Piece.{Piece}
use Rattle.std.specs.declared.option.Option.{Option}
use Rattle.data_text.specs.declared.field_line.FieldLine.{FieldLine}
use Rattle.data_tables.specs.Entry.{Value, Number}
use Rattle.data_generic.specs.declared.types.DataType.{DataType}
use Rattle.data_generic.specs.declared.labels.Label.{Label}
use Rattle.data_generic.specs.declared.walk.NumberFound.{NumberFound}
use Rattle.data_generic.specs.declared.walk.NumberFound.TheVariants as n
use Rattle.data_generic.specs.declared.walk.LineFound.{LineFound}
use Rattle.data_generic.specs.declared.walk.LineFound.TheVariants as l
use Rattle.data_generic.specs.declared.walk.DataWalker.{DataWalker}
use Rattle.data_generic.specs.Values.{bytes_by}
use Rattle.data_generic.specs.Walk.{Found, DataWalked, data_piece, data_walk}

abbrev pub IsNumberFound : NumberFound → Found → Type 0
IsNumberFound (n.Is number) found = found ≡ Ok (Number number)
IsNumberFound (n.Fault message) found = found ≡ Err message

-- the bytes of a value of this type, or a message
abbrev pub IsLineFound : LineFound → DataType → Found → Type 0
IsLineFound (l.Bytes bytes) form found = (value : Value) × (found ≡ Ok value) × (bytes ≡ bytes_by form value)
IsLineFound (l.Fault message) form found = found ≡ Err message

-- pieces and at most one fault
pub record DataOutcome : Type 0 where
  pub pieces : List Piece
  pub faults : List Message

abbrev pub outcome : List Piece → List Message → DataOutcome
outcome pieces faults = record { pieces = pieces; faults = faults }

abbrev pub so_far : DataWalker → DataOutcome
so_far walker = outcome walker.pieces walker.faults

abbrev pub told_after : DataWalker → DataWalked → DataOutcome
told_after walker w = outcome (walker.pieces ++ map data_piece w.fields) (walker.faults ++ w.faults)

-- what there is so far, and what these lines come to
abbrev pub told_with : DataWalker → (List ℕ → Option Label) → ℕ → List FieldLine → DataOutcome
told_with walker label index lines = told_after walker (data_walk label index walker.offset lines)
