-- What the bytes of a generic table say: the header by its offsets, and behind it, one after another, fields of the types and
-- sizes that a list tells.
use Rattle.std.specs.Prelude.{◌≡◌, ℕ, ◌+◌, ◌-◌, List, [], ◌∷◌, ◌++◌, length, take}
use Rattle.iasl_messages.specs.declared.place.Place.{Place}
use Rattle.data_layout.specs.Layout.{header_rows}
use Rattle.resource_macros.specs.Identifiers.{utf16_of}
use Rattle.data_tables.specs.Entry.{Value, Number, Bytes, Entry}
use Rattle.data_tables.specs.Reading.{bytes_at, number_of, rows_read, Stand}
use Rattle.data_generic.specs.declared.types.DataType.{DataType}
use Rattle.data_generic.specs.declared.types.DataType.TheVariants as d
use Rattle.data_generic.specs.Compiling.{DataEntry}

-- the first byte of each character but the last
abbrev pub narrowed : List ℕ → List ℕ
narrowed [] = []
narrowed (low ∷ []) = []
narrowed (low ∷ high ∷ []) = []
narrowed (low ∷ high ∷ next ∷ bytes) = low ∷ narrowed (next ∷ bytes)

-- what the bytes of a field say: a number, its lowest byte first; a text without its end; or bytes
abbrev pub said : DataType → List ℕ → Value
said (d.Number width) here = Number (number_of here)
said d.Text here = Bytes (take (length here - 1) here)
said d.WideText here = Bytes (narrowed here)
said d.Buffer here = Bytes here
said d.Guid here = Bytes here
said d.Label here = Bytes []

-- what must stand in a field: so many bytes as the type has, a final 0 behind a text, 16-bit characters up to a 0
abbrev pub DataStands : DataType → List ℕ → Type 0
DataStands (d.Number width) here = length here ≡ width
DataStands d.Text here = here ≡ take (length here - 1) here ++ 0 ∷ []
DataStands d.WideText here = here ≡ utf16_of (narrowed here)
DataStands d.Guid here = length here ≡ 16
DataStands d.Buffer here = Unit {0}
DataStands d.Label here = Unit {0}

-- from an offset on stand fields of these types and sizes, which say these values, and nothing is left over
abbrev pub ReadsData : List ℕ → ℕ → List DataEntry → Type 0
ReadsData bytes offset [] = offset ≡ length bytes
ReadsData bytes offset (entry ∷ entries) =
    DataStands entry.form (bytes_at bytes offset entry.size) × (entry.value ≡ said entry.form (bytes_at bytes offset entry.size))
    × ReadsData bytes (offset + entry.size) entries

-- the place, the type and the size of a value
abbrev pub form_of : DataEntry → Place × DataType × ℕ
form_of entry = (entry.place, entry.form, entry.size)

abbrev pub forms_of : List DataEntry → List (Place × DataType × ℕ)
forms_of [] = []
forms_of (entry ∷ entries) = form_of entry ∷ forms_of entries

-- A generic table reads as these values of its header and of its data lines: its header stands, with the length and the sum of all
-- bytes, and the data behind its 36 bytes.
pub record ReadsGeneric (bytes : List ℕ) (header : List Entry) (entries : List DataEntry) : Type 0 where
  pub stand : Stand bytes 0 header_rows
  pub values : header ≡ rows_read 0 bytes 0 header_rows
  pub data_read : ReadsData bytes 36 entries
