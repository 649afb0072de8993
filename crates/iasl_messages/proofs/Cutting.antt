-- A text is its first line and the lines of the rest.
use Rattle.std.proofs.Common.{◌≡◌, ℕ, suc, ◌+◌, ◌<◌, ◌≤◌, Bool, true, false, cond, not, ◌==◌, List, [], ◌∷◌, length, take, drop, Some, None, position, refl, ap, ◌∙◌, arith}
use Rattle.std.proofs.lemmas.Grind.{common_steps}
use Rattle.std.specs.List.{position_or_len}
use Rattle.iasl_messages.specs.Cut.{before_first_line, cut_at_lf, without_cr, without_crs, lines_of}

abbrev is_lf : ℕ → Bool
is_lf c = c == 10

-- with no LF a text is one line
cut_whole : (text : List ℕ) → length text ≤ position_or_len is_lf text → cut_at_lf text ≡ text ∷ []
cut_whole [] h = refl
cut_whole (c ∷ rest) h =
    elim (c == 10) as (λ b. length (c ∷ rest) ≤ cond (not b) (1 + position_or_len is_lf rest) 0 → cond b ([] ∷ cut_at_lf rest) (before_first_line c (cut_at_lf rest)) ≡ (c ∷ rest) ∷ []) [
      | true ↦ λ k. absurd (omega arith)
      | false ↦ λ k. ap (before_first_line c) (cut_whole rest (omega arith))
    ] h

cut_first : (text : List ℕ) → position_or_len is_lf text < length text → cut_at_lf text ≡ take (position_or_len is_lf text) text ∷ cut_at_lf (drop (position_or_len is_lf text + 1) text)
cut_first [] h = absurd (omega arith)
cut_first (c ∷ rest) h =
    elim (c == 10) as (λ b. cond (not b) (1 + position_or_len is_lf rest) 0 < length (c ∷ rest) → cond b ([] ∷ cut_at_lf rest) (before_first_line c (cut_at_lf rest)) ≡ take (cond (not b) (1 + position_or_len is_lf rest) 0) (c ∷ rest) ∷ cut_at_lf (drop (cond (not b) (1 + position_or_len is_lf rest) 0 + 1) (c ∷ rest))) [
      | true ↦ λ k. refl
      | false ↦ λ k.
          let n : ℕ = position_or_len is_lf rest in
          let e : 1 + n ≡ suc n = omega arith in
          let f : suc n + 1 ≡ suc (n + 1) = omega arith in
          ap (before_first_line c) (cut_first rest (omega arith)) ∙ (rw (e, f) refl)
    ] h

-- there is always a line
has_line : (text : List ℕ) → (line : List ℕ) × (lines : List (List ℕ)) × (cut_at_lf text ≡ line ∷ lines)
has_line [] = ([], [], refl)
has_line (c ∷ rest) =
    let more = has_line rest in
    elim (c == 10) as (λ b. (line : List ℕ) × (lines : List (List ℕ)) × (cond b ([] ∷ cut_at_lf rest) (before_first_line c (cut_at_lf rest)) ≡ line ∷ lines)) [
      | true ↦ ([], cut_at_lf rest, refl)
      | false ↦ (c ∷ more.0, more.1, ap (before_first_line c) more.2)
    ]

not_found : (p : ℕ → Bool) (xs : List ℕ) → position p xs ≡ None → length xs ≤ position_or_len p xs
not_found p xs h = grind (arith, common_steps)

found : (p : ℕ → Bool) (xs : List ℕ) (n : ℕ) → position p xs ≡ Some n → (n ≡ position_or_len p xs) × (n < length xs)
found p xs n h = grind (arith, common_steps)

without_crs_first : (line : List ℕ) (rest : List ℕ) → without_crs (line ∷ cut_at_lf rest) ≡ without_cr line ∷ without_crs (cut_at_lf rest)
without_crs_first line rest =
    let more = has_line rest in
    rw (more.2) refl

pub lines_whole : (text : List ℕ) → position (λ c. c == 10) text ≡ None → lines_of text ≡ text ∷ []
lines_whole text h = ap without_crs (cut_whole text (not_found is_lf text h))

pub lines_first : (text : List ℕ) (n : ℕ) → position (λ c. c == 10) text ≡ Some n → lines_of text ≡ without_cr (take n text) ∷ lines_of (drop (n + 1) text)
lines_first text n h =
    let at = found is_lf text n h in
    rw (at.0) (ap without_crs (cut_first text (omega arith)) ∙ without_crs_first (take (position_or_len is_lf text) text) (drop (position_or_len is_lf text + 1) text))

count_without_crs : (lines : List (List ℕ)) → length (without_crs lines) ≡ length lines
count_without_crs [] = refl
count_without_crs (line ∷ []) = refl
count_without_crs (line ∷ next ∷ rest) = ap suc (count_without_crs (next ∷ rest))

count_first : (c : ℕ) (lines : List (List ℕ)) → length (before_first_line c lines) ≤ length lines + 1
count_first c [] = omega arith
count_first c (line ∷ lines) = omega arith

count_cut : (text : List ℕ) → length (cut_at_lf text) ≤ length text + 1
count_cut [] = omega arith
count_cut (c ∷ rest) =
    elim (c == 10) as (λ b. length (cond b ([] ∷ cut_at_lf rest) (before_first_line c (cut_at_lf rest))) ≤ length (c ∷ rest) + 1) [
      | true ↦ omega (arith, count_cut rest)
      | false ↦ omega (arith, count_cut rest, count_first c (cut_at_lf rest))
    ]

-- a text has at most one line more than bytes
pub count_lines : (text : List ℕ) → length (lines_of text) ≤ length text + 1
count_lines text = omega (arith, count_without_crs (cut_at_lf text), count_cut text)
