-- The bytes of a table, its rows, and bytes as digits.
use Rattle.std.specs.Prelude.{ℕ, ◌+◌, ◌-◌, ◌/◌, ◌%◌, List, [], ◌∷◌, ◌++◌, length, slice_index, codes}
use Rattle.std.specs.Simd.{first_chunks}
use Rattle.iasl_messages.specs.declared.place.Piece.{Piece}

-- the bytes of the pieces, one after another
abbrev pub table_bytes : List Piece → List ℕ
table_bytes [] = []
table_bytes (piece ∷ pieces) = piece.bytes ++ table_bytes pieces

-- bytes cut into rows of so many, of which the last has those that are left
abbrev pub rows : ℕ → List ℕ → List (List ℕ)
rows width bytes = first_chunks width ((length bytes + width - 1) / width) bytes

-- the hexadecimal digits, with upper-case letters
abbrev pub upper_digits : List ℕ
upper_digits = codes "0123456789ABCDEF"

-- a byte as two digits
abbrev pub pair : ℕ → List ℕ
pair byte = slice_index upper_digits (byte / 16) ∷ slice_index upper_digits (byte % 16) ∷ []
