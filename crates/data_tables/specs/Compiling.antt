-- What a text comes to: a table, or the messages of its faults.
use Rattle.std.specs.Prelude.{ℕ, zero, suc, cond, List, [], ◌∷◌, ◌++◌, length, map, Some, None, Ok, Err}
use Rattle.std.specs.declared.option.Option.{Option}
use Rattle.std.specs.declared.result.Result.{Result}
use Rattle.iasl_messages.specs.declared.place.Place.{Place}
use Rattle.iasl_messages.specs.declared.place.Piece.{Piece}
use Rattle.iasl_messages.specs.declared.place.Line.{Line}
use Rattle.iasl_messages.specs.declared.message.Message.{Message}
use Rattle.byteorder.specs.Endian.{little_bytes}
use Rattle.aml_code.specs.Header.{checksum_of}
use Rattle.source_lines.specs.Text.{line_text}
use Rattle.data_layout.specs.declared.table.Table.{Table}
use Rattle.data_layout.specs.Layout.{table_of}
use Rattle.data_text.specs.declared.field_line.FieldLine.{FieldLine}
use Rattle.data_text.specs.declared.field_line.DataText.{DataText}
use Rattle.data_text.specs.Source.{text_of}
use Rattle.data_text.specs.Values.{text_in}
use Rattle.data_tables.specs.declared.compiled.Compiled.{Compiled}
use Rattle.data_tables.specs.Fields.{field_bytes}
use Rattle.data_tables.specs.Parts.{first_part}
use Rattle.data_tables.specs.Walk.{Field, Walked, walk, message_at}

-- the piece of a field: the place of its line, no text yet, and its bytes
abbrev pub piece_at : FieldLine → List ℕ → Piece
piece_at line bytes = record { place = line.place; source = []; bytes = bytes }

abbrev pub piece_of : Field → Piece
piece_of field = piece_at field.line (field_bytes field.row field.value)

-- the bytes of pieces, one after another
abbrev pub joined : List Piece → List ℕ
joined [] = []
joined (piece ∷ pieces) = piece.bytes ++ joined pieces

-- the pieces, of which that at a place has these bytes
abbrev pub put_at : ℕ → List ℕ → List Piece → List Piece
put_at place bytes [] = []
put_at zero bytes (piece ∷ pieces) = record piece { bytes = bytes } ∷ pieces
put_at (suc place) bytes (piece ∷ pieces) = piece ∷ put_at place bytes pieces

-- with the table's length, which is the second field, and then with its checksum, the fourth
abbrev pub with_length : List Piece → List Piece
with_length pieces = put_at 1 (little_bytes 4 (length (joined pieces))) pieces

abbrev pub with_checksum : List Piece → List Piece
with_checksum pieces = put_at 3 (little_bytes 1 (checksum_of (joined pieces))) pieces

abbrev pub sealed : List Piece → List Piece
sealed pieces = with_checksum (with_length pieces)

-- a piece with the text of its line
abbrev pub with_text : List Line → Piece → Piece
with_text lines piece = record piece { source = line_text lines piece.place }

abbrev pub with_texts : List Line → List Piece → List Piece
with_texts lines pieces = map (with_text lines) pieces

-- a table, or the messages of all faults
abbrev pub Answer : Type 0
Answer = Result Compiled (List Message)

abbrev pub answer_by : List ℕ → List Piece → List Message → List Message → Answer
answer_by signature pieces notes [] = Ok (record { pieces = sealed pieces; signature = signature; notes = notes })
answer_by signature pieces notes (fault ∷ faults) = Err (fault ∷ faults)

abbrev pub answer_of : List ℕ → Walked → Answer
answer_of signature walked = answer_by signature (map piece_of walked.fields) walked.notes walked.faults

-- one message
abbrev pub refused : ℕ → Place → Answer
refused number place = Err (message_at number place ∷ [])

-- the text of a line with a colon, which must be a signature (6090)
abbrev pub signature_in : FieldLine → Option (List ℕ)
signature_in line = cond line.colon (text_in line.value) None

abbrev pub compiled_table : DataText → FieldLine → List ℕ → Option Table → Answer
compiled_table text first signature None = refused 6090 first.place
compiled_table text first signature (Some table) = answer_of signature (walk text.end (first_part table) None text.lines)

abbrev pub compiled_signed : DataText → FieldLine → Option (List ℕ) → Answer
compiled_signed text first None = refused 6090 first.place
compiled_signed text first (Some signature) = compiled_table text first signature (table_of signature)

-- a text without a field has none of the table's (6091), and a line without colon has no value (6093)
abbrev pub compiled_lines : DataText → List FieldLine → Answer
compiled_lines text [] = refused 6091 text.end
compiled_lines text (first ∷ rest) = cond first.colon (compiled_signed text first (signature_in first)) (refused 6093 first.place)

abbrev pub compiled_text : DataText → Answer
compiled_text text = compiled_lines text text.lines

abbrev pub answer_with_texts : List Line → Answer → Answer
answer_with_texts lines (Ok table) = Ok (record table { pieces = with_texts lines table.pieces })
answer_with_texts lines (Err faults) = Err faults

-- what the lines of a text come to
abbrev pub compiled : List Line → Answer
compiled lines = answer_with_texts lines (compiled_text (text_of lines))
