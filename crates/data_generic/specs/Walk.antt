-- The values of data lines, one line after another.
use Rattle.std.specs.Prelude.{ℕ, ◌+◌, ◌-◌, ◌*◌, ◌%◌, ◌^◌, nat_eq, nat_le, cond, List, [], ◌∷◌, length, Some, None, Ok, Err}
use Rattle.std.specs.declared.option.Option.{Option}
use Rattle.std.specs.declared.result.Result.{Result}
use Rattle.iasl_messages.specs.declared.message.Message.{Message}
use Rattle.iasl_messages.specs.declared.place.Piece.{Piece}
use Rattle.data_text.specs.declared.field_line.FieldLine.{FieldLine}
use Rattle.data_text.specs.Values.{number_in}
use Rattle.data_tables.specs.Entry.{Value, Number, Bytes}
use Rattle.data_tables.specs.Fields.{has_room}
use Rattle.data_tables.specs.Walk.{message_at}
use Rattle.data_tables.specs.Compiling.{piece_at}
use Rattle.data_generic.specs.declared.types.DataType.{DataType}
use Rattle.data_generic.specs.declared.types.DataType.TheVariants as d
use Rattle.data_generic.specs.declared.labels.Label.{Label}
use Rattle.data_generic.specs.Types.{type_of_line}
use Rattle.data_generic.specs.Words.{Reference, Offset, Difference, name_in, is_reference, reference_in}
use Rattle.data_generic.specs.Values.{plain_value, bytes_by}
use Rattle.data_generic.specs.Labels.{label_of}

-- a data line with its type and its value
pub record DataField : Type 0 where
  pub line : FieldLine
  pub form : DataType
  pub value : Value

abbrev pub data_bytes : DataField → List ℕ
data_bytes field = bytes_by field.form field.value

abbrev pub data_piece : DataField → Piece
data_piece field = piece_at field.line (data_bytes field)

-- a value, or one message
abbrev pub Found : Type 0
Found = Result Value Message

abbrev pub fault : FieldLine → ℕ → Found
fault line number = Err (message_at number line.place)

-- ---- numbers

-- a number that has no room is too wide (6094)
abbrev pub in_room : ℕ → FieldLine → ℕ → Found
in_room width line number = cond (has_room width number) (Ok (Number number)) (fault line 6094)

abbrev pub number_by : ℕ → FieldLine → Option ℕ → Found
number_by width line None = fault line 6093
number_by width line (Some number) = in_room width line number

-- an offset that is not known stands behind a fault, so that the text has no table
abbrev pub offset_by : ℕ → FieldLine → Option ℕ → Found
offset_by width line None = Ok (Number 0)
offset_by width line (Some offset) = in_room width line offset

-- a label that is not found: its name is told as it is written (6112)
abbrev pub not_found : FieldLine → List ℕ → Found
not_found line name = Err (record { number = 6112; place = line.place; name = name })

abbrev pub one_by : ℕ → FieldLine → List ℕ → Option Label → Found
one_by width line name None = not_found line name
one_by width line name (Some label) = offset_by width line label.offset

-- a difference wraps at 64 bits and at the line's size
abbrev pub wrapped : ℕ → ℕ → ℕ → ℕ
wrapped width one other = (one + (2 ^ 64 - other)) % 2 ^ 64 % 2 ^ (8 * width)

abbrev pub difference_by : ℕ → Option ℕ → Option ℕ → Found
difference_by width None other = Ok (Number 0)
difference_by width (Some one) None = Ok (Number 0)
difference_by width (Some one) (Some other) = Ok (Number (wrapped width one other))

abbrev pub second_by : ℕ → FieldLine → Label → List ℕ → Option Label → Found
second_by width line one name None = not_found line name
second_by width line one name (Some other) = difference_by width one.offset other.offset

abbrev pub first_by : ℕ → FieldLine → List ℕ → Option Label → List ℕ → Option Label → Found
first_by width line name None other found = not_found line name
first_by width line name (Some one) other found = second_by width line one other found

-- the value of `$NAME` and of `$NAME - $NAME`, where `label` tells the labels
abbrev pub reference_by : (List ℕ → Option Label) → ℕ → FieldLine → Option Reference → Found
reference_by label width line None = fault line 6093
reference_by label width line (Some (Offset name)) = one_by width line name (label name)
reference_by label width line (Some (Difference name other)) = first_by width line name (label name) other (label other)

abbrev pub number_at : (List ℕ → Option Label) → ℕ → FieldLine → Found
number_at label width line =
    cond (is_reference line.value) (reference_by label width line (reference_in line.value)) (number_by width line (number_in line.value))

-- ---- labels

-- a label is the first of its name, or else it is declared twice (6111)
abbrev pub if_first : FieldLine → ℕ → Option Label → Found
if_first line index None = Ok (Bytes [])
if_first line index (Some label) = cond (nat_eq label.index index) (Ok (Bytes [])) (fault line 6111)

abbrev pub label_by : (List ℕ → Option Label) → ℕ → FieldLine → Option (List ℕ) → Found
label_by label index line None = fault line 6093
label_by label index line (Some name) = if_first line index (label name)

-- ---- lines

abbrev pub plain_by : FieldLine → Option Value → Found
plain_by line None = fault line 6093
plain_by line (Some value) = Ok value

-- the value of the line of this number, or its message
abbrev pub value_by : (List ℕ → Option Label) → ℕ → FieldLine → DataType → Found
value_by label index line (d.Number width) = number_at label width line
value_by label index line d.Label = label_by label index line (name_in line.value)
value_by label index line d.Text = plain_by line (plain_value d.Text line.value)
value_by label index line d.WideText = plain_by line (plain_value d.WideText line.value)
value_by label index line d.Buffer = plain_by line (plain_value d.Buffer line.value)
value_by label index line d.Guid = plain_by line (plain_value d.Guid line.value)

-- the most bytes of a table: 16 MiB
abbrev pub most_bytes : ℕ
most_bytes = 2 ^ 24

-- what lines come to: their fields in order, and at most one fault
pub record DataWalked : Type 0 where
  pub fields : List DataField
  pub faults : List Message

abbrev pub halted : Message → DataWalked
halted message = record { fields = []; faults = message ∷ [] }

abbrev pub with_field : DataField → DataWalked → DataWalked
with_field field w = record { fields = field ∷ w.fields; faults = w.faults }

-- a field that still has room in the table (6080), and then what comes behind it
abbrev pub with_room : ℕ → DataField → (ℕ → DataWalked) → DataWalked
with_room offset field rest =
    let end = offset + length (data_bytes field) in cond (nat_le end most_bytes) (with_field field (rest end))
    (halted (message_at 6080 field.line.place))

abbrev pub after_value : ℕ → FieldLine → DataType → Found → (ℕ → DataWalked) → DataWalked
after_value offset line form (Err message) rest = halted message
after_value offset line form (Ok value) rest = with_room offset (record { line = line; form = form; value = value }) rest

-- a line's type is one of the table (6110)
abbrev pub after_type : (List ℕ → Option Label) → ℕ → ℕ → FieldLine → Option DataType → (ℕ → DataWalked) → DataWalked
after_type label index offset line None rest = halted (message_at 6110 line.place)
after_type label index offset line (Some form) rest = after_value offset line form (value_by label index line form) rest

-- these lines, of which the first has this number and stands at this offset
abbrev pub data_walk : (List ℕ → Option Label) → ℕ → ℕ → List FieldLine → DataWalked
data_walk label index offset [] = record { fields = []; faults = [] }
data_walk label index offset (line ∷ lines) = after_type label index offset line (type_of_line line)
    (λ end. data_walk label (index + 1) end lines)

-- the data lines, which stand behind the 36 bytes of the header
abbrev pub walk_all : List FieldLine → DataWalked
walk_all lines = data_walk (label_of lines) 0 36 lines
