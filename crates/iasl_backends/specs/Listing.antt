-- The lines of a source, each with the bytes of the table that come from it.
use Rattle.std.specs.Prelude.{ℕ, ◌+◌, ◌/◌, ◌%◌, List, [], ◌∷◌, ◌++◌, length, drop, codes, decimal}
use Rattle.std.specs.List.{flat_map}
use Rattle.iasl_messages.specs.declared.place.Piece.{Piece}
use Rattle.iasl_backends.specs.Table.{pair, rows}

-- a byte behind a blank, as ` 53`
abbrev pub listed_byte : ℕ → List ℕ
listed_byte byte = codes " " ++ pair byte

-- an offset in eight digits, those of its four bytes, the highest byte first
abbrev pub eight_digits : ℕ → List ℕ
eight_digits offset = pair (offset / 16777216 % 256) ++ pair (offset / 65536 % 256) ++ pair (offset / 256 % 256) ++ pair (offset % 256)

-- the line of a row: its offset in the table and its bytes, the first behind two blanks, each other behind one
abbrev pub listed_row : ℕ → List ℕ → List ℕ
listed_row offset row = eight_digits offset ++ codes " " ++ flat_map listed_byte row ++ codes "\n"

-- the lines of rows, of which the first stands at an offset
abbrev pub listed_rows : ℕ → List (List ℕ) → List ℕ
listed_rows offset [] = []
listed_rows offset (row ∷ rest) = listed_row offset row ++ listed_rows (offset + length row) rest

-- a number right in six places: six blanks, less one for each digit, and the digits
abbrev pub right_in_six : ℕ → List ℕ
right_in_six number = drop (length (decimal number)) (codes "      ") ++ decimal number

-- the line of the source with its number
abbrev pub source_line : Piece → List ℕ
source_line piece = right_in_six piece.place.line ++ codes "  " ++ piece.source ++ codes "\n"

-- a piece that stands at an offset: the line of the source, and its bytes in rows of up to sixteen
abbrev pub listed_piece : ℕ → Piece → List ℕ
listed_piece offset piece = source_line piece ++ listed_rows offset (rows 16 piece.bytes)

-- the pieces, of which the first stands at an offset
abbrev pub listed_pieces : ℕ → List Piece → List ℕ
listed_pieces offset [] = []
listed_pieces offset (piece ∷ pieces) = listed_piece offset piece ++ listed_pieces (offset + length piece.bytes) pieces
