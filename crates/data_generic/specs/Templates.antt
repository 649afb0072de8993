-- The template of a table: a text of fields with default values.
use Rattle.std.specs.Prelude.{◌≡◌, ℕ, ◌+◌, ◌/◌, ◌%◌, ◌||◌, ◌==◌, Bool, cond, List, [], ◌∷◌, ◌++◌, codes, map, reverse, Some, None, Ok, Err}
use Rattle.std.specs.declared.option.Option.{Option}
use Rattle.std.specs.Option.{option_map, unwrap_or}
use Rattle.std.specs.List.{flat_map}
use Rattle.std.specs.Str.{bytes_eq}
use Rattle.byteorder.specs.Endian.{little_bytes}
use Rattle.aml_code.specs.Header.{filled}
use Rattle.iasl_backends.specs.Table.{pair}
use Rattle.iasl_messages.specs.declared.place.Line.{Line}
use Rattle.iasl_messages.specs.declared.place.Piece.{Piece}
use Rattle.data_layout.specs.declared.row.Row.{Row}
use Rattle.data_layout.specs.declared.row.Kind.{Kind}
use Rattle.data_layout.specs.declared.row.Kind.TheVariants as k
use Rattle.data_layout.specs.declared.row.Behind.{Behind}
use Rattle.data_layout.specs.declared.row.Behind.TheVariants as b
use Rattle.data_layout.specs.declared.table.Table.{Table}
use Rattle.data_layout.specs.Layout.{layout_of, header_rows, fixed_rows, behind_of, entry_rows, type_rows, structure_rows, locality_row}
pub use Rattle.data_layout.specs.Layout.{signature_of}
use Rattle.hex_text.specs.Blanks.{has_blanks_alone}
use Rattle.data_text.specs.Labels.{label_key}
use Rattle.data_tables.specs.Entry.{Value, Number, Bytes}
use Rattle.data_tables.specs.Fields.{field_bytes}
use Rattle.data_tables.specs.Compiling.{Answer, joined, sealed}

-- ---- which fields it has

abbrev pub revision_of : Table → ℕ
revision_of table = (layout_of table).revision

-- the type of its structure
abbrev pub type_of_table : Table → ℕ
type_of_table table = (layout_of table).structure

-- the fields of its structure
abbrev pub structure_behind : Table → List Row
structure_behind table = type_rows table ++ unwrap_or (structure_rows table (type_of_table table)) []

-- what stands behind the fixed part: one entry, one structure, or two localities
abbrev pub rows_by : Behind → Table → List Row
rows_by b.Nothing table = []
rows_by b.Entries table = entry_rows table
rows_by b.Structures table = structure_behind table
rows_by b.Localities table = locality_row 2 0 ∷ locality_row 2 1 ∷ []

abbrev pub rows_behind : Table → List Row
rows_behind table = rows_by (behind_of table) table

abbrev pub rows_of : Table → List Row
rows_of table = header_rows ++ (fixed_rows table (revision_of table) ++ rows_behind table)

-- ---- their values

-- a revision other than the table's is 1
abbrev pub is_revision : Row → Bool
is_revision row = bytes_eq (codes "oemrevision") (label_key row.label) || bytes_eq (codes "tablerevision") (label_key row.label)

abbrev pub plain_number : Row → ℕ
plain_number row = cond (is_revision row) 1 0

-- the texts of the header, by how many bytes they have
abbrev pub text_of_width : Table → ℕ → List ℕ
text_of_width table width = cond (width == 4) (signature_of table) (cond (width == 6) (codes "OEMID") (codes "TEMPLATE"))

-- the matrix of two localities: a locality is 10 from itself, and 20 from the other
abbrev pub distances : ℕ → List ℕ
distances number = cond (number == 0) (10 ∷ 20 ∷ []) (20 ∷ 10 ∷ [])

abbrev pub number_by : Table → Kind → Row → ℕ
number_by table k.Revision row = revision_of table
number_by table k.StructureType row = type_of_table table
number_by table k.Localities row = 2
number_by table k.Number row = plain_number row
number_by table kind row = 0

abbrev pub number_of : Table → Row → ℕ
number_of table row = number_by table row.kind row

abbrev pub value_by : Table → Kind → Row → Value
value_by table k.Text row = Bytes (filled row.width (text_of_width table row.width))
value_by table k.CompilerId row = Bytes (codes "INTL")
value_by table k.Bytes row = Bytes (filled row.width [])
value_by table k.Guid row = Bytes (filled row.width [])
value_by table (k.Locality number) row = Bytes (distances number)
value_by table kind row = Number (number_of table row)

abbrev pub value_of : Table → Row → Value
value_of table row = value_by table row.kind row

-- ---- how they are written

-- two digits for each byte, the highest first
abbrev pub digits : ℕ → ℕ → List ℕ
digits width number = flat_map pair (reverse (little_bytes width number))

abbrev pub quoted : List ℕ → List ℕ
quoted text = 34 ∷ text ++ 34 ∷ []

-- pairs with one blank between
abbrev pub pairs : List ℕ → List ℕ
pairs [] = []
pairs (byte ∷ []) = pair byte
pairs (byte ∷ next ∷ bytes) = pair byte ++ 32 ∷ pairs (next ∷ bytes)

abbrev pub written_by : Table → Kind → Row → List ℕ
written_by table k.Text row = quoted (text_of_width table row.width)
written_by table k.CompilerId row = quoted (codes "INTL")
written_by table k.Bytes row = pairs (filled row.width [])
written_by table k.Guid row = codes "00000000-0000-0000-0000-000000000000"
written_by table (k.Locality number) row = pairs (distances number)
written_by table kind row = digits row.width (number_of table row)

abbrev pub written : Table → Row → List ℕ
written table row = written_by table row.kind row

-- the last decimal digit of a number
abbrev pub digit : ℕ → ℕ
digit n = n % 10 + 48

abbrev pub four_digits : ℕ → List ℕ
four_digits n = digit (n / 1000) ∷ digit (n / 100) ∷ digit (n / 10) ∷ digit n ∷ []

-- what stands in front of a label
abbrev pub size_text : ℕ → List ℕ
size_text size = codes "[" ++ four_digits size ++ codes "] "

-- a label without the blanks that fill it
abbrev pub trimmed : List ℕ → List ℕ
trimmed [] = []
trimmed (c ∷ rest) = cond (has_blanks_alone (c ∷ rest)) [] (c ∷ trimmed rest)

-- behind the label of a locality stands its number, which has one digit
abbrev pub number_behind : Kind → List ℕ
number_behind (k.Locality number) = 32 ∷ digit number ∷ []
number_behind kind = []

abbrev pub label_of_row : Row → List ℕ
label_of_row row = trimmed row.label ++ number_behind row.kind

abbrev pub line_of : ℕ → List ℕ → List ℕ → List ℕ
line_of size label value = size_text size ++ label ++ codes " : " ++ value

-- ---- its lines

-- the name of this number among names, of which the first has the number of a place
abbrev pub name_from : ℕ → ℕ → List (List ℕ) → Option (List ℕ)
name_from place index [] = None
name_from place index (name ∷ names) = cond (index == place) (Some name) (name_from (place + 1) index names)

-- the generic addresses that have a heading, by their number
abbrev pub heading_of : Table → ℕ → Option (List ℕ)
heading_of table index = name_from 0 index (layout_of table).headings

-- a generic address begins with its space
abbrev pub heading_before : Table → ℕ → Row → Option (List ℕ)
heading_before table index row = cond (bytes_eq (codes "spaceid") (label_key row.label)) (heading_of table index) None

abbrev pub heading_line : List ℕ → List ℕ
heading_line name = line_of 12 name (codes "[Generic Address Structure]")

abbrev pub row_line : Table → Row → List ℕ
row_line table row = line_of row.width (label_of_row row) (written table row)

abbrev pub piece_at : ℕ → List ℕ → List ℕ → Piece
piece_at number line bytes = record { place = record { file = 0; line = number; column = 1 }; source = line; bytes = bytes }

abbrev pub row_piece : Table → ℕ → Row → Piece
row_piece table number row = piece_at number (row_line table row) (field_bytes row (value_of table row))

-- a field behind its heading, where it has one, and then the further ones by the numbers of the next line and heading
abbrev pub behind_heading : Table → ℕ → ℕ → Row → Option (List ℕ) → (ℕ → ℕ → List Piece) → List Piece
behind_heading table number index row None rest = row_piece table number row ∷ rest (number + 1) index
behind_heading table number index row (Some name) rest = piece_at number (heading_line name) [] ∷ row_piece table (number + 1) row ∷ rest
    (number + 1 + 1) (index + 1)

-- the pieces of fields, where the next line and the next heading have these numbers
abbrev pub pieces_from : Table → ℕ → ℕ → List Row → List Piece
pieces_from table number index [] = []
pieces_from table number index (row ∷ rows) = behind_heading table number index row (heading_before table index row)
    (λ next heading. pieces_from table next heading rows)

abbrev pub unsealed_pieces : Table → List Piece
unsealed_pieces table = pieces_from table 1 0 (rows_of table)

-- the template of a table: a piece for each line, with the bytes of the table
abbrev pub default_pieces : Table → List Piece
default_pieces table = sealed (unsealed_pieces table)

abbrev pub default_of : Option Table → Option (List Piece)
default_of table = option_map default_pieces table

-- pieces as the lines of a source
abbrev pub lines_of : List Piece → List Line
lines_of pieces = map (λ piece. record { file = piece.place.file; number = piece.place.line; text = piece.source }) pieces

-- a table of these bytes, of which nothing is told
abbrev pub ComesTo : Answer → List ℕ → Type 0
ComesTo (Ok table) bytes = (joined table.pieces ≡ bytes) × (table.notes ≡ [])
ComesTo (Err messages) bytes = ⊥
