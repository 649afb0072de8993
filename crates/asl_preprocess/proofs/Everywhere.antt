-- What holds of a file holds of each of its lines, where it holds of each part of a text that it holds of.
use Rattle.std.proofs.Common.{◌≡◌, ℕ, zero, suc, ◌+◌, ◌-◌, ◌<◌, Bool, true, false, cond, List, [], ◌∷◌, length, take, drop, Option, Some, None, position, refl, arith}
use Rattle.std.specs.Prelude.{◌==◌}
use Rattle.std.specs.List.{All}
use Rattle.std.specs.Str.{bytes_eq}
use Rattle.std.proofs.lemmas.List.{length-drop}
use Rattle.std.proofs.lemmas.List.Elements.{All-nil, All-cons, All-head, All-tail, All-same}
use Rattle.std.proofs.lemmas.List.Quantifiers.{position-Some}
use Rattle.iasl_messages.specs.Cut.{without_cr, lines_of}
use Rattle.iasl_messages.proofs.Cutting.{lines_whole, lines_first}
use Rattle.asl_preprocess.specs.Rows.{without_last_empty, file_lines}

module _ (P : List ℕ → Type 0) (front : (n : ℕ) (text : List ℕ) → P text → P (take n text)) (behind : (n : ℕ) (text : List ℕ) → P text → P (drop n text)) where
  of_line : (line : List ℕ) → P line → P (without_cr line)
  of_line line h = by (bytes_eq (drop (length line - 1) line) (13 ∷ []))
    where
      by : (t : Bool) → P (cond t (take (length line - 1) line) line)
      by true = front (length line - 1) line h
      by false = h

  of_lines : (most : ℕ) (text : List ℕ) → length text < most → P text → All P (lines_of text)
  of_lines zero text few h = absurd (omega arith)
  of_lines (suc most) text few h = by (λ rest. of_lines most rest) (position (λ c. c == 10) text) refl
    where
      by : ((rest : List ℕ) → length rest < most → P rest → All P (lines_of rest)) → (found : Option ℕ) → position (λ c. c == 10) text ≡ found → All P (lines_of text)
      by shorter None e = All-same P (lines_of text) (text ∷ []) (lines_whole text e) (All-cons P text [] h (All-nil P))
      by shorter (Some n) e =
          let within : n < length text = (position-Some (λ c. c == 10) text n 0 e).0 in
          let rest : List ℕ = drop (n + 1) text in
          All-same P (lines_of text) (without_cr (take n text) ∷ lines_of rest) (lines_first text n e)
          (All-cons P (without_cr (take n text)) (lines_of rest) (of_line (take n text) (front n text h)) (shorter rest (omega (arith, length-drop (n + 1) text)) (behind (n + 1) text h)))

  without_last : (lines : List (List ℕ)) → All P lines → All P (without_last_empty lines)
  without_last [] h = h
  without_last ([] ∷ []) h = All-nil P
  without_last ((c ∷ cs) ∷ []) h = h
  without_last (line ∷ next ∷ rest) h =
      All-cons P line (without_last_empty (next ∷ rest)) (All-head P line (next ∷ rest) h) (without_last (next ∷ rest) (All-tail P line (next ∷ rest) h))

  pub lines_all : (text : List ℕ) → P text → All P (file_lines text)
  lines_all text h = without_last (lines_of text) (of_lines (length text + 1) text (omega arith) h)
