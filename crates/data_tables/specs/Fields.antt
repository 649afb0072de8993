-- The value of a field, and its bytes.
use Rattle.std.specs.Prelude.{ℕ, ◌*◌, ◌^◌, ◌==◌, ◌&&◌, nat_lt, nat_le, Bool, cond, List, [], ◌++◌, length, take, drop, decimal, Some, None}
use Rattle.std.specs.Prelude.{Ok, Err}
use Rattle.std.specs.declared.option.Option.{Option}
use Rattle.std.specs.declared.result.Result.{Result}
use Rattle.std.specs.Option.{is_some}
use Rattle.byteorder.specs.Endian.{little_bytes}
use Rattle.aml_code.specs.Header.{filled, compiler_bytes}
use Rattle.resource_macros.specs.Identifiers.{uuid_of}
use Rattle.hex_text.specs.Blanks.{has_blanks_alone, drop_blanks}
use Rattle.data_layout.specs.declared.row.Row.{Row}
use Rattle.data_layout.specs.declared.row.Kind.{Kind}
use Rattle.data_layout.specs.declared.row.Kind.TheVariants as k
use Rattle.data_layout.specs.declared.table.Table.{Table}
use Rattle.data_layout.specs.Layout.{knows_revision, structure_rows}
use Rattle.data_text.specs.Labels.{label_key}
use Rattle.data_text.specs.Values.{number_in, text_in, bytes_in}
use Rattle.data_tables.specs.declared.field.Form.{Form}
use Rattle.data_tables.specs.declared.field.Form.TheVariants as form
use Rattle.data_tables.specs.Entry.{Value, Number, Bytes}

-- the value as a number
abbrev pub number_of_value : Value → ℕ
number_of_value (Number n) = n
number_of_value (Bytes bytes) = 0

-- how the value of a field is written
abbrev pub form_of : Kind → Form
form_of k.Text = form.Text
form_of k.CompilerId = form.Text
form_of k.Bytes = form.Bytes
form_of k.Guid = form.Guid
form_of (k.Locality n) = form.Bytes
form_of kind = form.Number

-- whether a number has room in so many bytes, of which a number has at most 8
abbrev pub has_room : ℕ → ℕ → Bool
has_room width number = nat_lt number (2 ^ 64) && nat_lt number (2 ^ (8 * width))

-- the message of a number, where it has one: it is too wide (6094)
abbrev pub width_fault : ℕ → ℕ → Option ℕ
width_fault width number = cond (has_room width number) None (Some 6094)

-- or the table is not known in such a revision (6093)
abbrev pub revision_fault : Table → ℕ → ℕ → Option ℕ
revision_fault table width number = cond (knows_revision table number) (width_fault width number) (Some 6093)

abbrev pub has_structure : Table → ℕ → Bool
has_structure table number = is_some (structure_rows table number)

-- or there is no structure of this type (6095)
abbrev pub type_fault : Table → ℕ → ℕ → Option ℕ
type_fault table width number = cond (has_room width number) (cond (has_structure table number) None (Some 6095)) (Some 6094)

-- or there are more than 4000 localities (6097)
abbrev pub count_fault : ℕ → ℕ → Option ℕ
count_fault width number = cond (has_room width number) (cond (nat_le number 4000) None (Some 6097)) (Some 6094)

-- or a reserved field is not 0 (6093)
abbrev pub reserved_fault : ℕ → Option ℕ
reserved_fault number = cond (number == 0) None (Some 6093)

abbrev pub number_fault : Table → Kind → ℕ → ℕ → Option ℕ
number_fault table k.Reserved width number = reserved_fault number
number_fault table k.Revision width number = revision_fault table width number
number_fault table k.StructureType width number = type_fault table width number
number_fault table k.Localities width number = count_fault width number
number_fault table kind width number = width_fault width number

-- the message of bytes of a wrong count: 6097 in the row of a locality, else 6093
abbrev pub bytes_fault : Kind → ℕ
bytes_fault (k.Locality n) = 6097
bytes_fault kind = 6093

abbrev pub judged : ℕ → Option ℕ → Result Value ℕ
judged number None = Ok (Number number)
judged number (Some fault) = Err fault

-- no number, no text and no bytes are 6093
abbrev pub value_of_number : Table → Row → Option ℕ → Result Value ℕ
value_of_number table row None = Err 6093
value_of_number table row (Some number) = judged number (number_fault table row.kind row.width number)

abbrev pub value_of_text : Row → Option (List ℕ) → Result Value ℕ
value_of_text row None = Err 6093
value_of_text row (Some text) = cond (nat_le (length text) row.width) (Ok (Bytes (filled row.width text))) (Err 6094)

abbrev pub value_of_bytes : Row → Option (List ℕ) → Result Value ℕ
value_of_bytes row None = Err 6093
value_of_bytes row (Some bytes) = cond (length bytes == row.width) (Ok (Bytes bytes)) (Err (bytes_fault row.kind))

-- the UUID that a value is: 36 characters between blanks
abbrev pub guid_from : List ℕ → Option (List ℕ)
guid_from text = cond (has_blanks_alone (drop 36 text)) (uuid_of (take 36 text)) None

abbrev pub guid_in : List ℕ → Option (List ℕ)
guid_in value = guid_from (drop_blanks value)

abbrev pub value_by : Form → Table → Row → List ℕ → Result Value ℕ
value_by form.Number table row text = value_of_number table row (number_in text)
value_by form.Text table row text = value_of_text row (text_in text)
value_by form.Bytes table row text = value_of_bytes row (bytes_in text)
value_by form.Guid table row text = value_of_bytes row (guid_in text)

-- the value that a field of a table is given, or its message's number
abbrev pub value_of : Table → Row → List ℕ → Result Value ℕ
value_of table row text = value_by (form_of row.kind) table row text

abbrev pub value_bytes : ℕ → Value → List ℕ
value_bytes width (Number number) = little_bytes width number
value_bytes width (Bytes bytes) = bytes

-- The bytes of a field. In the place of a computed value stands what is due there: of the compiler its name and its
-- revision. The table's length and checksum are 0 until the table is whole.
abbrev pub bytes_by : Kind → ℕ → Value → List ℕ
bytes_by k.TableLength width value = little_bytes width 0
bytes_by k.Checksum width value = little_bytes width 0
bytes_by k.CompilerId width value = take 4 compiler_bytes
bytes_by k.CompilerRevision width value = drop 4 compiler_bytes
bytes_by (k.Length size) width value = little_bytes width size
bytes_by kind width value = value_bytes width value

abbrev pub field_bytes : Row → Value → List ℕ
field_bytes row value = bytes_by row.kind row.width value

-- a label as it is compared; behind that of a locality's row stands the locality's number
abbrev pub number_behind : Kind → List ℕ
number_behind (k.Locality n) = decimal n
number_behind kind = []

abbrev pub row_key : Row → List ℕ
row_key row = label_key row.label ++ number_behind row.kind
