-- A word among the rows of a table by the byte behind it alone: in these rows blanks alone stand behind a blank.
use Rattle.std.specs.Prelude.{ℕ, nat_eq, ◌==◌, List, [], ◌∷◌, length, take, drop, Bool, true, ◌&&◌, Option}
use Rattle.std.specs.List.{find}
use Rattle.std.specs.Cmp.Lexicographic.{pointwise}
use Rattle.asl_words.specs.declared.operator.Operator.{Operator}
use Rattle.asl_words.specs.declared.operator.Named.{Named}

-- nothing, or a blank (32) first
abbrev pub is_blank_first : List ℕ → Bool
is_blank_first [] = true
is_blank_first (b ∷ bytes) = b == 32

-- the bytes begin with the word, and a blank or nothing stands behind it
abbrev pub is_begun : List ℕ → List ℕ → Bool
is_begun bytes word = pointwise nat_eq (take (length word) bytes) word && is_blank_first (drop (length word) bytes)

-- the first row of the word
unfoldable pub row_begun : List Operator → List ℕ → Option Operator
row_begun rows text = find (λ row. is_begun row.word text) rows

unfoldable pub named_begun : List Named → List ℕ → Option Named
named_begun rows text = find (λ row. is_begun row.text text) rows
