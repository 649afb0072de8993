-- What a text writes: the fields and their values in order. Computed fields are no entries.
use Rattle.std.specs.Prelude.{ℕ, ◌+◌, Bool, true, false, cond, List, [], ◌∷◌, ◌++◌, map, Some, None}
use Rattle.std.specs.declared.option.Option.{Option}
use Rattle.iasl_messages.specs.declared.place.Line.{Line}
use Rattle.data_layout.specs.declared.row.Row.{Row}
use Rattle.data_layout.specs.declared.row.Kind.{Kind}
use Rattle.data_layout.specs.declared.row.Kind.TheVariants as k
use Rattle.data_layout.specs.declared.table.Table.{Table}
use Rattle.data_layout.specs.Layout.{table_of}
use Rattle.data_text.specs.declared.field_line.FieldLine.{FieldLine}
use Rattle.data_text.specs.declared.field_line.DataText.{DataText}
use Rattle.data_text.specs.Source.{text_of}
use Rattle.data_tables.specs.Entry.{Value}
pub use Rattle.data_tables.specs.Entry.{Entry}
use Rattle.data_tables.specs.Parts.{first_part}
use Rattle.data_tables.specs.Walk.{Field, walk}
use Rattle.data_tables.specs.Compiling.{signature_in, piece_of, joined}

-- the length and the checksum of the table, the compiler's name and revision, and a structure's length are computed
abbrev pub is_computed : Kind → Bool
is_computed k.TableLength = true
is_computed k.Checksum = true
is_computed k.CompilerId = true
is_computed k.CompilerRevision = true
is_computed (k.Length size) = true
is_computed kind = false

abbrev pub entry_of : ℕ → Row → Value → List Entry
entry_of structure row value = cond (is_computed row.kind) [] (record { structure = structure; row = row; value = value } ∷ [])

-- the number of the structure in which a field stands, where that before it stands in this one
abbrev pub number_at : Bool → ℕ → ℕ
number_at begins structure = cond begins (structure + 1) structure

abbrev pub entries_from : ℕ → List Field → List Entry
entries_from structure [] = []
entries_from structure (field ∷ fields) =
    let number = number_at field.begins structure in entry_of number field.row field.value ++ entries_from number fields

-- the fields of a text whose table is known
abbrev pub fields_of_table : DataText → Option Table → List Field
fields_of_table text None = []
fields_of_table text (Some table) = (walk text.end (first_part table) None text.lines).fields

abbrev pub fields_signed : DataText → Option (List ℕ) → List Field
fields_signed text None = []
fields_signed text (Some signature) = fields_of_table text (table_of signature)

abbrev pub fields_by : DataText → List FieldLine → List Field
fields_by text [] = []
fields_by text (first ∷ rest) = fields_signed text (signature_in first)

abbrev pub fields_of_text : DataText → List Field
fields_of_text text = fields_by text text.lines

-- the values that a text writes, in order
abbrev pub written_values : List Line → List Entry
written_values lines = entries_from 0 (fields_of_text (text_of lines))

-- how the bytes of a text's fields are before the length and the checksum are known
abbrev pub unsealed_bytes : List Line → List ℕ
unsealed_bytes lines = joined (map piece_of (fields_of_text (text_of lines)))
