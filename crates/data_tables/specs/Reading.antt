-- What a table's bytes say, read by offset. Of how texts are written and compiled it uses nothing: it has the layouts,
-- and words of its own.
use Rattle.std.specs.Prelude.{◌≡◌, ◌≤◌, ◌<◌, ℕ, ◌+◌, ◌%◌, List, [], ◌∷◌, ◌++◌, length, take, drop, sum, codes, true, Some, None}
use Rattle.std.specs.declared.option.Option.{Option}
use Rattle.byteorder.specs.Endian.{little_number}
use Rattle.data_layout.specs.declared.row.Row.{Row}
use Rattle.data_layout.specs.declared.row.Kind.{Kind}
use Rattle.data_layout.specs.declared.row.Kind.TheVariants as k
use Rattle.data_layout.specs.declared.row.Behind.{Behind}
use Rattle.data_layout.specs.declared.row.Behind.TheVariants as b
use Rattle.data_layout.specs.declared.table.Table.{Table}
use Rattle.data_layout.specs.Layout.{table_of, header_rows, knows_revision, fixed_rows, behind_of, entry_rows, type_rows}
use Rattle.data_layout.specs.Layout.{structure_rows, locality_row}
use Rattle.data_tables.specs.Entry.{Value, Number, Bytes, Entry}

-- so many bytes from an offset on
abbrev pub bytes_at : List ℕ → ℕ → ℕ → List ℕ
bytes_at bytes offset width = take width (drop offset bytes)

-- the number that bytes are, the lowest first
abbrev pub number_of : List ℕ → ℕ
number_of bytes = little_number (length bytes) bytes

abbrev pub number_read : List ℕ → ℕ → ℕ → ℕ
number_read bytes offset width = number_of (bytes_at bytes offset width)

-- What the bytes of a field say: a text, bytes or a UUID are they themselves, and all else is a number. What follows from the
-- table and the compiler alone says nothing: the table's length and checksum, the compiler, a structure's length.
abbrev pub said : Kind → List ℕ → Option Value
said k.Text here = Some (Bytes here)
said k.Bytes here = Some (Bytes here)
said k.Guid here = Some (Bytes here)
said (k.Locality number) here = Some (Bytes here)
said k.TableLength here = None
said k.Checksum here = None
said k.CompilerId here = None
said k.CompilerRevision here = None
said (k.Length size) here = None
said kind here = Some (Number (number_of here))

-- what the field of a row says that stands at an offset
abbrev pub field_said : List ℕ → ℕ → Row → Option Value
field_said bytes offset row = said row.kind (bytes_at bytes offset row.width)

abbrev pub entry_said : ℕ → Row → Option Value → List Entry
entry_said structure row None = []
entry_said structure row (Some value) = record { structure = structure; row = row; value = value } ∷ []

-- the values of fields that stand one behind the other from an offset on
abbrev pub rows_read : ℕ → List ℕ → ℕ → List Row → List Entry
rows_read structure bytes offset [] = []
rows_read structure bytes offset (row ∷ rows) =
    entry_said structure row (field_said bytes offset row) ++ rows_read structure bytes (offset + row.width) rows

-- how many bytes fields have
abbrev pub size_of : List Row → ℕ
size_of [] = 0
size_of (row ∷ rows) = row.width + size_of rows

-- What must stand in a field of one content, among all bytes: 0 in a reserved one, the number of the bytes, a sum of 0
-- modulo 256, the compiler `INTL` of revision 20210105, the length of a structure.
abbrev pub Stands : List ℕ → Kind → List ℕ → Type 0
Stands bytes k.Reserved here = number_of here ≡ 0
Stands bytes k.TableLength here = number_of here ≡ length bytes
Stands bytes k.Checksum here = sum bytes % 256 ≡ 0
Stands bytes k.CompilerId here = here ≡ codes "INTL"
Stands bytes k.CompilerRevision here = number_of here ≡ 0x20210105
Stands bytes (k.Length size) here = number_of here ≡ size
Stands bytes kind here = Unit {0}

-- fields stand from an offset on, within the bytes
abbrev pub Stand : List ℕ → ℕ → List Row → Type 0
Stand bytes offset [] = offset ≤ length bytes
Stand bytes offset (row ∷ rows) = Stands bytes row.kind (bytes_at bytes offset row.width) × Stand bytes (offset + row.width) rows

-- where fields from an offset on have the length of their structure, it is this one
abbrev pub States : ℕ → Kind → List ℕ → Type 0
States size (k.Length stated) here = number_of here ≡ size
States size kind here = Unit {0}

abbrev pub State : ℕ → List ℕ → ℕ → List Row → Type 0
State size bytes offset [] = Unit {0}
State size bytes offset (row ∷ rows) = States size row.kind (bytes_at bytes offset row.width)
    × State size bytes (offset + row.width) rows

-- the type of the structure at an offset
abbrev pub type_read : Table → List ℕ → ℕ → ℕ
type_read table bytes offset = number_read bytes offset (size_of (type_rows table))

-- where the revision chooses how long the fixed part is, it is one whose length is known
abbrev pub IsKnownRevision : Table → ℕ → Type 0
IsKnownRevision table revision = knows_revision table revision ≡ true

-- what stands behind the fixed part: nothing, entries, structures, or rows of so many localities from this one on
pub data Tail : Type 0 where
  Nothing : Tail
  Entries : Tail
  Structures : Tail
  Localities : ℕ → ℕ → Tail

-- the tail may end here: each locality has its row
abbrev pub IsEnough : Tail → Type 0
IsEnough (Localities count place) = count ≤ place
IsEnough tail = Unit {0}

-- What stands from an offset on, behind the structure of this number, up to the end: nothing; or an entry, a structure
-- whose length is the one it states, or the row of a locality, and then further ones.
pub data IsRest (table : Table) (bytes : List ℕ) : Tail → ℕ → ℕ → List Entry → Type 0 where
  ended : (tail : Tail) (number offset : ℕ) → IsEnough tail → offset ≡ length bytes → IsRest table bytes tail number offset []
  entry : (number offset : ℕ) (more : List Entry) → Stand bytes offset (entry_rows table) → IsRest table bytes Entries (number + 1)
      (offset + size_of (entry_rows table)) more → IsRest table bytes Entries number offset
      (rows_read (number + 1) bytes offset (entry_rows table) ++ more)
  structure : (number offset : ℕ) (rows : List Row) (more : List Entry) → structure_rows table (type_read table bytes offset) ≡ Some rows →
      State (size_of (type_rows table ++ rows)) bytes offset (type_rows table ++ rows) → Stand bytes offset (type_rows table ++ rows) →
      IsRest table bytes Structures (number + 1) (offset + size_of (type_rows table ++ rows)) more → IsRest table bytes Structures number offset
      (rows_read (number + 1) bytes offset (type_rows table ++ rows) ++ more)
  locality : (number offset count place : ℕ) (more : List Entry) → place < count → Stand bytes offset (locality_row count place ∷ []) →
      IsRest table bytes (Localities count (place + 1)) (number + 1) (offset + count) more →
      IsRest table bytes (Localities count place) number offset (rows_read (number + 1) bytes offset (locality_row count place ∷ [])
      ++ more)

-- what stands behind the fixed part of a table, which says how many localities there are
abbrev pub rest_by : Behind → List ℕ → Tail
rest_by b.Nothing bytes = Nothing
rest_by b.Entries bytes = Entries
rest_by b.Structures bytes = Structures
rest_by b.Localities bytes = Localities (number_read bytes 36 8) 0

abbrev pub rest_of : Table → List ℕ → Tail
rest_of table bytes = rest_by (behind_of table) bytes

-- the fields of the header and of the fixed part, which the revision chooses
abbrev pub first_rows : Table → List ℕ → List Row
first_rows table bytes = header_rows ++ fixed_rows table (number_read bytes 8 1)

-- A table of known fields reads as these values: its signature and its revision are known, each field stands at its
-- offset, and nothing is left over.
pub record ReadsAs (bytes : List ℕ) (entries : List Entry) : Type 0 where
  pub table : Table
  pub signature : table_of (bytes_at bytes 0 4) ≡ Some table
  pub revision : IsKnownRevision table (number_read bytes 8 1)
  pub stand : Stand bytes 0 (first_rows table bytes)
  pub more : List Entry
  pub rest : IsRest table bytes (rest_of table bytes) 0 (size_of (first_rows table bytes)) more
  pub values : entries ≡ rows_read 0 bytes 0 (first_rows table bytes) ++ more
