-- The field lines of a text of which each has a colon, and the header that the first of them write.
use Rattle.std.specs.Prelude.{◌≡◌, ℕ, ◌==◌, ◌&&◌, nat_le, Bool, false, cond, List, [], ◌∷◌, ◌++◌, length, map, Some, None, Ok, Err, ⊤}
use Rattle.std.specs.declared.option.Option.{Option}
use Rattle.std.specs.declared.result.Result.{Result}
use Rattle.std.specs.List.{list_all}
use Rattle.iasl_messages.specs.declared.place.Place.{Place}
use Rattle.iasl_messages.specs.declared.place.Line.{Line}
use Rattle.iasl_messages.specs.declared.message.Message.{Message}
use Rattle.iasl_messages.specs.declared.message.Stage.{Stage}
use Rattle.iasl_messages.specs.declared.message.Stage.TheVariants as stage
use Rattle.data_layout.specs.declared.row.Row.{Row}
use Rattle.data_layout.specs.declared.table.Table.{Table}
use Rattle.data_layout.specs.declared.table.Table.TheVariants as t
use Rattle.data_layout.specs.Layout.{header_rows}
use Rattle.data_text.specs.declared.field_line.FieldLine.{FieldLine}
use Rattle.data_text.specs.Source.{text_of}
use Rattle.data_text.specs.Values.{text_in}
use Rattle.data_tables.specs.declared.compiled.HeaderPieces.{HeaderPieces}
use Rattle.data_tables.specs.declared.compiled.Header.{Header}
use Rattle.data_tables.specs.declared.front.HeaderWalker.{HeaderWalker}
use Rattle.data_tables.specs.declared.walk.FieldBytes.{FieldBytes}
use Rattle.data_tables.specs.declared.walk.FieldBytes.TheVariants as g
use Rattle.data_tables.specs.Entry.{Value}
use Rattle.data_tables.specs.Fields.{value_of, field_bytes}
use Rattle.data_tables.specs.Walk.{Walked, walked, with_front, field_at, fault_at, message_at}
use Rattle.data_tables.specs.Compiling.{piece_of, joined}
use Rattle.data_tables.specs.Outcomes.{Outcome, made}

-- ---- field lines

-- the first line that has no colon
abbrev pub without_colon : List FieldLine → Option FieldLine
without_colon [] = None
without_colon (line ∷ lines) = cond line.colon (without_colon lines) (Some line)

-- such a line has no value, and no other message is told (6093)
abbrev pub lines_by : List FieldLine → Option FieldLine → Result (List FieldLine) (List Message)
lines_by lines None = Ok lines
lines_by lines (Some line) = Err (message_at 6093 line.place ∷ [])

-- the field lines of these lines, where each has a colon
abbrev pub field_lines : List Line → Result (List FieldLine) (List Message)
field_lines lines = lines_by (text_of lines).lines (without_colon (text_of lines).lines)

-- the field lines, or exactly this message; want of memory says nothing
abbrev pub AnswersLines : Result (List FieldLine) Stage → Result (List FieldLine) (List Message) → Type 0
AnswersLines (Ok lines) answer = answer ≡ Ok lines
AnswersLines (Err (stage.Refused messages)) answer = answer ≡ Err messages
AnswersLines (Err stage.Memory) answer = ⊤

-- ---- the header

-- a printable character that is no blank
abbrev pub is_shown : ℕ → Bool
is_shown c = nat_le 33 c && nat_le c 126

-- a signature is four of them
abbrev pub is_signature : Option (List ℕ) → Bool
is_signature None = false
is_signature (Some text) = length text == 4 && list_all is_shown text

-- the header is that of a table whose revision chooses nothing
abbrev pub any_table : Table
any_table = t.Mcfg

-- a field, and then what comes behind it; or a fault, behind which nothing is looked at
abbrev pub row_taken : Row → FieldLine → Result Value ℕ → Walked → Walked
row_taken row line (Err fault) more = fault_at line.place fault
row_taken row line (Ok value) more = with_front (field_at line false row value) more

-- what lines give to these rows; a field may be missing (6091), where the last line of the text stands at `end`
abbrev pub rows_walk : Place → List Row → List FieldLine → Walked
rows_walk end [] lines = walked [] [] []
rows_walk end (row ∷ rows) [] = fault_at end 6091
rows_walk end (row ∷ rows) (line ∷ lines) = row_taken row line (value_of any_table row line.value) (rows_walk end rows lines)

-- the header that the first lines write; its first field must be a signature (6090)
abbrev pub header_walk : Place → List FieldLine → Walked
header_walk end [] = fault_at end 6091
header_walk end (line ∷ lines) = cond (is_signature (text_in line.value)) (rows_walk end header_rows (line ∷ lines))
    (fault_at line.place 6090)

-- ---- what is answered of it

-- these faults, of which there are some
abbrev pub AreFaults : List Message → List Message → Type 0
AreFaults faults messages = (faults ≡ messages) × (messages ≡ [] → ⊥)

-- the pieces and the notes of a header without faults, or exactly its faults; want of memory says nothing
abbrev pub AnswersPieces : Result HeaderPieces Stage → Walked → Type 0
AnswersPieces (Ok header) w = (w.faults ≡ []) × (header.pieces ≡ map piece_of w.fields) × (header.notes ≡ w.notes)
AnswersPieces (Err (stage.Refused messages)) w = AreFaults w.faults messages
AnswersPieces (Err stage.Memory) w = ⊤

-- the same with the bytes of the pieces
abbrev pub AnswersHeader : Result Header Stage → Walked → Type 0
AnswersHeader (Ok header) w = (w.faults ≡ []) × (header.bytes ≡ joined (map piece_of w.fields)) × (header.notes ≡ w.notes)
AnswersHeader (Err (stage.Refused messages)) w = AreFaults w.faults messages
AnswersHeader (Err stage.Memory) w = ⊤

-- what has been made of a header so far, and that with what comes behind it
abbrev pub header_so_far : HeaderWalker → Outcome
header_so_far walker = made walker.pieces walker.notes walker.faults

abbrev pub header_told : HeaderWalker → Walked → Outcome
header_told walker w = made (walker.pieces ++ map piece_of w.fields) (walker.notes ++ w.notes) (walker.faults ++ w.faults)

-- the bytes of a field, or the number of a message
abbrev pub IsGiven : FieldBytes → Row → Result Value ℕ → Type 0
IsGiven (g.Bytes bytes) row given = (value : Value) × (given ≡ Ok value) × (bytes.items ≡ field_bytes row value)
IsGiven (g.Fault fault) row given = given ≡ Err fault

-- the place of a line, where there is one
abbrev pub IsPlaceOf : Option Place → Option FieldLine → Type 0
IsPlaceOf None found = found ≡ None
IsPlaceOf (Some place) found = (line : FieldLine) × (found ≡ Some line) × (place ≡ line.place)

-- one message, unless memory runs out
abbrev pub IsRefusal : Stage → ℕ → Place → Type 0
IsRefusal (stage.Refused messages) number place = messages ≡ message_at number place ∷ []
IsRefusal stage.Memory number place = ⊤
