-- A line of bytes in a table: blanks, a hexadecimal offset, a colon, and pairs of hexadecimal digits.
use Rattle.std.specs.Prelude.{ℕ, zero, suc, ◌==◌, ◌&&◌, cond, List, [], ◌∷◌, Some, None}
use Rattle.std.specs.declared.option.Option.{Option}
use Rattle.std.specs.Option.{option_map}
use Rattle.hex_text.specs.Blanks.{is_blank, drop_blanks}
use Rattle.hex_text.specs.Digits.{behind_digits, byte_of, digits_of, number_of}

-- the byte before the others, where both are there
abbrev pub with_first : Option ℕ → Option (List ℕ) → Option (List ℕ)
with_first None bytes = None
with_first (Some byte) bytes = option_map (λ more. byte ∷ more) bytes

-- The pairs that stand behind the colon, at most so many: each after one blank, up to the line's end or two
-- blanks, behind which nothing is read. None where the text has not this form.
abbrev pub pairs_of : ℕ → List ℕ → Option (List ℕ)
pairs_of room [] = Some []
pairs_of room (a ∷ []) = None
pairs_of room (a ∷ b ∷ []) = cond (is_blank a && is_blank b) (Some []) None
pairs_of zero (a ∷ b ∷ c ∷ rest) = cond (is_blank a && is_blank b) (Some []) None
pairs_of (suc room) (a ∷ b ∷ c ∷ rest) = cond (is_blank a && is_blank b) (Some [])
    (cond (is_blank a) (with_first (byte_of b c) (pairs_of room rest)) None)

-- an offset and the bytes of its line
abbrev pub Row : Type 0
Row = ℕ × List ℕ

abbrev pub row_after_offset : ℕ → List ℕ → Option Row
row_after_offset offset [] = None
row_after_offset offset (c ∷ rest) = cond (c == 58) (option_map (λ bytes. (offset, bytes)) (pairs_of 16 rest)) None

abbrev pub row_at_offset : List ℕ → List ℕ → Option Row
row_at_offset [] rest = None
row_at_offset (digit ∷ digits) rest = row_after_offset (number_of (digit ∷ digits)) rest

-- the offset and the bytes of a line, where it has the form
abbrev pub row_of : List ℕ → Option Row
row_of line = let text = drop_blanks line in row_at_offset (digits_of text) (behind_digits text)
