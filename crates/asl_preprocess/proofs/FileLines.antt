-- The lines of a file are its first line and those of the rest.
use Rattle.std.proofs.Common.{◌≡◌, ℕ, ◌+◌, ◌<◌, ◌≤◌, List, [], ◌∷◌, length, Some, None, position, ◌==◌, refl, ap, ◌∙◌, arith}
use Rattle.std.specs.Prelude.{Option}
use Rattle.iasl_messages.specs.Cut.{lines_of}
use Rattle.iasl_messages.proofs.Cutting.{count_lines, lines_whole, lines_first}
use Rattle.asl_preprocess.specs.Rows.{without_last_empty, file_lines}

-- a text has a line
some_line : (text : List ℕ) → 0 < length (lines_of text)
some_line text = by_place (position (λ c. c == 10) text) refl
  where
    by_place : (found : Option ℕ) → position (λ c. c == 10) text ≡ found → 0 < length (lines_of text)
    by_place None e = rw (lines_whole text e) (omega arith)
    by_place (Some n) e = rw (lines_first text n e) (omega arith)

keeps_first : (line : List ℕ) (lines : List (List ℕ)) → 0 < length lines → without_last_empty (line ∷ lines) ≡ line ∷ without_last_empty lines
keeps_first line [] h = absurd (omega arith)
keeps_first line (next ∷ rest) h = refl

-- a text that is cut
pub lines_then : (text line rest : List ℕ) → lines_of text ≡ line ∷ lines_of rest → file_lines text ≡ line ∷ file_lines rest
lines_then text line rest e = ap without_last_empty e ∙ keeps_first line (lines_of rest) (some_line rest)

-- a text that is one line
pub lines_last : (text : List ℕ) → 0 < length text → lines_of text ≡ text ∷ [] → file_lines text ≡ text ∷ []
lines_last text h e = ap without_last_empty e ∙ alone text h
  where
    alone : (line : List ℕ) → 0 < length line → without_last_empty (line ∷ []) ≡ line ∷ []
    alone [] h = absurd (omega arith)
    alone (c ∷ cs) h = refl

fewer : (lines : List (List ℕ)) → length (without_last_empty lines) ≤ length lines
fewer [] = omega arith
fewer ([] ∷ []) = omega arith
fewer ((c ∷ cs) ∷ []) = omega arith
fewer (line ∷ next ∷ rest) = omega (arith, fewer (next ∷ rest))

-- a file has at most one line more than bytes
pub count_file_lines : (text : List ℕ) → length (file_lines text) ≤ length text + 1
count_file_lines text = omega (arith, fewer (lines_of text), count_lines text)
