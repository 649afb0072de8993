-- The lines of a text.
use Rattle.std.specs.Prelude.{ℕ, ◌-◌, ◌==◌, cond, List, [], ◌∷◌, length, take, drop}
use Rattle.std.specs.Str.{bytes_eq}

-- the byte before the first of the lines
abbrev pub before_first_line : ℕ → List (List ℕ) → List (List ℕ)
before_first_line c [] = (c ∷ []) ∷ []
before_first_line c (line ∷ lines) = (c ∷ line) ∷ lines

-- a byte before what follows it: LF (10) ends a line
abbrev pub before_cut : ℕ → List (List ℕ) → List (List ℕ)
before_cut c lines = cond (c == 10) ([] ∷ lines) (before_first_line c lines)

-- a text cut at each LF; what stands after the last is a line too, and may be empty
abbrev pub cut_at_lf : List ℕ → List (List ℕ)
cut_at_lf [] = [] ∷ []
cut_at_lf (c ∷ rest) = before_cut c (cut_at_lf rest)

-- a line without the CR (13) at its end, if it has one
abbrev pub without_cr : List ℕ → List ℕ
without_cr line = cond (bytes_eq (drop (length line - 1) line) (13 ∷ [])) (take (length line - 1) line) line

-- the same of each line but the last, which no LF ends
abbrev pub without_crs : List (List ℕ) → List (List ℕ)
without_crs [] = []
without_crs (line ∷ []) = line ∷ []
without_crs (line ∷ next ∷ rest) = without_cr line ∷ without_crs (next ∷ rest)

-- the lines of a text: it is cut at LF, and a CR before LF is dropped
abbrev pub lines_of : List ℕ → List (List ℕ)
lines_of text = without_crs (cut_at_lf text)
