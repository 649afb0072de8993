-- What the text of a generic table comes to: a table, or the messages of its faults.
use Rattle.std.specs.Prelude.{ℕ, List, [], ◌∷◌, ◌++◌, cond, drop, length, map, Ok, Err}
use Rattle.std.specs.declared.result.Result.{Result}
use Rattle.iasl_messages.specs.declared.place.Place.{Place}
use Rattle.iasl_messages.specs.declared.place.Line.{Line}
use Rattle.iasl_messages.specs.declared.place.Piece.{Piece}
use Rattle.iasl_messages.specs.declared.message.Message.{Message}
use Rattle.data_text.specs.declared.field_line.FieldLine.{FieldLine}
use Rattle.data_text.specs.declared.field_line.DataText.{DataText}
use Rattle.data_text.specs.Source.{text_of}
use Rattle.data_tables.specs.Entry.{Value, Entry}
use Rattle.data_tables.specs.Entries.{entries_from}
use Rattle.data_tables.specs.Walk.{Field, Walked}
use Rattle.data_tables.specs.Compiling.{Answer, answer_with_texts, piece_of, sealed}
use Rattle.data_tables.specs.Headers.{without_colon, lines_by, header_walk}
use Rattle.data_generic.specs.declared.types.DataType.{DataType}
use Rattle.data_generic.specs.Types.{is_label}
use Rattle.data_generic.specs.Walk.{DataField, DataWalked, data_bytes, data_piece, walk_all}

-- the lines behind those of the nine fields of the header
abbrev pub data_lines : List FieldLine → List FieldLine
data_lines lines = drop 9 lines

-- the pieces of a table before its length and its checksum are known
abbrev pub unsealed : List Field → List DataField → List Piece
unsealed header fields = map piece_of header ++ map data_piece fields

-- the bytes of the first piece of a header, which are the signature
abbrev pub first_bytes : List Piece → List ℕ
first_bytes [] = []
first_bytes (piece ∷ pieces) = piece.bytes

-- the table of a header's pieces and of what stands behind them, or the fault of a data line
abbrev pub table_by : List Piece → List Message → List DataField → List Message → Answer
table_by header notes fields [] =
    Ok (record { pieces = sealed (header ++ map data_piece fields); signature = first_bytes header; notes = notes })
table_by header notes fields (fault ∷ faults) = Err (fault ∷ faults)

abbrev pub data_table : List Piece → List Message → DataWalked → Answer
data_table header notes w = table_by header notes w.fields w.faults

-- a header without faults, and then the data lines
abbrev pub behind_header : List FieldLine → Walked → List Message → Answer
behind_header fields header [] = data_table (map piece_of header.fields) header.notes (walk_all (data_lines fields))
behind_header fields header (fault ∷ faults) = Err (fault ∷ faults)

abbrev pub generic_by : Place → Result (List FieldLine) (List Message) → Answer
generic_by end (Err messages) = Err messages
generic_by end (Ok fields) = behind_header fields (header_walk end fields) (header_walk end fields).faults

-- the lines of a text, each with a colon
abbrev pub checked_lines : DataText → Result (List FieldLine) (List Message)
checked_lines text = lines_by text.lines (without_colon text.lines)

abbrev pub generic_text : DataText → Answer
generic_text text = generic_by text.end (checked_lines text)

-- what the lines of a generic table come to
abbrev pub compiled_generic : List Line → Answer
compiled_generic lines = answer_with_texts lines (generic_text (text_of lines))

-- ---- what a text writes

-- a value of a data line: where the line stands, its type with its size in bytes, and the value
pub record DataEntry : Type 0 where
  pub place : Place
  pub form : DataType
  pub size : ℕ
  pub value : Value

-- labels are no entries
abbrev pub entry_of : DataField → List DataEntry
entry_of field =
    cond (is_label field.form) []
    (record { place = field.line.place; form = field.form; size = length (data_bytes field); value = field.value } ∷ [])

abbrev pub entries_of : List DataField → List DataEntry
entries_of [] = []
entries_of (field ∷ fields) = entry_of field ++ entries_of fields

-- the values that the header of a text writes, and those of its data lines
abbrev pub header_by : Place → Result (List FieldLine) (List Message) → List Entry
header_by end (Err messages) = []
header_by end (Ok fields) = entries_from 0 (header_walk end fields).fields

abbrev pub written_header : List Line → List Entry
written_header lines = header_by (text_of lines).end (checked_lines (text_of lines))

abbrev pub data_by : Result (List FieldLine) (List Message) → List DataEntry
data_by (Err messages) = []
data_by (Ok fields) = entries_of (walk_all (data_lines fields)).fields

abbrev pub written_data : List Line → List DataEntry
written_data lines = data_by (checked_lines (text_of lines))
