-- Lines in ascending order, and the one of a place among them.
use Rattle.std.proofs.Common.{◌≡◌, ℕ, zero, suc, ◌+◌, ◌-◌, ◌<◌, ◌≤◌, ◌&&◌, inl, inr, Bool, true, false, cond, List, [], ◌∷◌, length, get_or, slice_index, nat_eq, refl, sym, ap, subst, ◌∙◌, arith, below_more}
use Rattle.std.proofs.lemmas.Bool.{cases_lt}
use Rattle.std.proofs.lemmas.List.{get_or-map}
use Rattle.std.proofs.lemmas.Bool.Decides.{nat_tests}
use Rattle.iasl_messages.specs.declared.place.Line.{Line}
use Rattle.iasl_messages.specs.declared.place.Place.{Place}
use Rattle.source_lines.specs.Order.{rank, ranks, IsAscending}
use Rattle.source_lines.specs.Text.{line_text}

pub rank_at : (lines : List Line) (i : ℕ) (line : Line) → i < length lines → line ≡ get_or lines i line → slice_index (ranks lines) i ≡ rank line.file line.number
rank_at lines i line h is = get_or-map (λ l. rank l.file l.number) lines i line 0 h ∙ ap (λ l. rank l.file l.number) (sym is)

pub ascends_more : (xs : List ℕ) (count : ℕ) → 0 < count → ((i j : ℕ) → i < j → j < count → slice_index xs i < slice_index xs j) → slice_index xs (count - 1) < slice_index xs count
    → (i j : ℕ) → i < j → j < count + 1 → slice_index xs i < slice_index xs j
ascends_more xs count some before now i j =
    let at_count : (k : ℕ) → k < count → slice_index xs k < slice_index xs count =
    λ k h. elim (cases_lt k (count - 1)) [
      | inl below ↦ omega (arith, before k (count - 1) below (omega arith), now)
      | inr last ↦ let same : k ≡ count - 1 = omega arith in subst (λ n. slice_index xs n < slice_index xs count) (sym same) now
    ] in
    λ h within. below_more (λ n. (k : ℕ) → k < n → slice_index xs k < slice_index xs n) count (λ n inside k below. before k n below inside) at_count j within i h

module _ (lines : List Line) (ascending : IsAscending lines) where
  pub before_more : (middle sought : ℕ) → middle < length lines → slice_index (ranks lines) middle < sought → (k : ℕ) → k < middle + 1 → slice_index (ranks lines) k < sought
  before_more middle sought within here = below_more (λ k. slice_index (ranks lines) k < sought) middle (λ k below. omega (arith, ascending k middle below within, here)) here

  pub behind_more : (middle sought : ℕ) → sought ≤ slice_index (ranks lines) middle → (k : ℕ) → middle ≤ k → k < length lines → sought ≤ slice_index (ranks lines) k
  behind_more middle sought here k from within = elim (cases_lt middle k) [
    | inl below ↦ omega (arith, ascending middle k below within, here)
    | inr last ↦ let same : middle ≡ k = omega arith in subst (λ n. sought ≤ slice_index (ranks lines) n) same here
  ]

  -- where a line has the rank of another, it is that one
  pub only_one : (index : ℕ) (sought : ℕ) → index < length lines → slice_index (ranks lines) index ≡ sought → (k : ℕ) → k < length lines → slice_index (ranks lines) k ≡ sought → k ≡ index
  only_one index sought within here k inside there = elim (cases_lt k index) [
    | inl below ↦ absurd (omega (arith, ascending k index below within, here, there))
    | inr from ↦ elim (cases_lt index k) [
      | inl above ↦ absurd (omega (arith, ascending index k above inside, here, there))
      | inr upto ↦ omega arith
    ]
  ]

  -- the first line that does not stand before a place is the only one that may be at it
  pub only_first : (count : ℕ) (sought : ℕ) → ((k : ℕ) → k < count → slice_index (ranks lines) k < sought) → ((k : ℕ) → count ≤ k → k < length lines → sought ≤ slice_index (ranks lines) k)
      → (k : ℕ) → k < length lines → slice_index (ranks lines) k ≡ sought → k ≡ count
  only_first count sought before behind k inside there = elim (cases_lt k count) [
    | inl below ↦ absurd (omega (arith, before k below, there))
    | inr from ↦ elim (cases_lt count k) [
      | inl above ↦ absurd (omega (arith, ascending count k above inside, behind count (omega arith) (omega arith), there))
      | inr upto ↦ omega arith
    ]
  ]

-- whether a line has a place's file and line
abbrev pub at_place : Line → Place → Bool
at_place line place = nat_eq line.file place.file && nat_eq line.number place.line

pub same_rank : (line : Line) (place : Place) → at_place line place ≡ true → rank line.file line.number ≡ rank place.file place.line
same_rank line place e = grind (arith, nat_tests)

text_there : (b : Bool) (own rest : List ℕ) → b ≡ true → cond b own rest ≡ own
text_there b own rest e = ap (λ c. cond c own rest) e

text_below : (b : Bool) (own rest : List ℕ) → b ≡ false → cond b own rest ≡ rest
text_below b own rest e = ap (λ c. cond c own rest) e

not_true : (b : Bool) → (b ≡ true → ⊥) → b ≡ false
not_true true h = absurd (h refl)
not_true false h = refl

-- where no line is at the place
none_there : (lines : List Line) (place : Place) (d : Line) → ((k : ℕ) → k < length lines → at_place (get_or lines k d) place ≡ true → ⊥) → line_text lines place ≡ []
none_there [] place d h = refl
none_there (line ∷ lines) place d h =
    text_below (at_place line place) line.text (line_text lines place) (not_true (at_place line place) (h 0 (omega arith)))
    ∙ none_there lines place d (λ k within. h (suc k) (omega arith))

-- where only one line may be at the place, and is not
pub nothing_there : (lines : List Line) (place : Place) (index : ℕ) → ((k : ℕ) → k < length lines → slice_index (ranks lines) k ≡ rank place.file place.line → k ≡ index)
    → (d : Line) → (index < length lines → at_place (get_or lines index d) place ≡ true → ⊥) → line_text lines place ≡ []
nothing_there lines place index only d none = none_there lines place d (λ k inside there.
    let same : k ≡ index = only k inside (get_or-map (λ l. rank l.file l.number) lines k d 0 inside ∙ same_rank (get_or lines k d) place there) in
    let within : index < length lines = omega arith in
    none within (subst (λ n. at_place (get_or lines n d) place ≡ true) same there))

-- where the line at an index is the first that may be at the place, and is
pub one_there : (lines : List Line) (place : Place) (index : ℕ) (d e : Line) → index < length lines → ((k : ℕ) → k < index → slice_index (ranks lines) k ≡ rank place.file place.line → ⊥)
    → at_place (get_or lines index e) place ≡ true → line_text lines place ≡ (get_or lines index d).text
one_there [] place index d e within h there = absurd (omega arith)
one_there (line ∷ lines) place zero d e within h there = text_there (at_place line place) line.text (line_text lines place) there
one_there (line ∷ lines) place (suc index) d e within h there =
    text_below (at_place line place) line.text (line_text lines place) (not_true (at_place line place) (λ t. h 0 (omega arith) (same_rank line place t)))
    ∙ one_there lines place index d e (omega arith) (λ k below. h (suc k) (omega arith)) there
