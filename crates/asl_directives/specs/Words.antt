-- Blanks, words and marks in a line.
use Rattle.std.specs.Prelude.{ℕ, ◌+◌, ◌==◌, Bool, false, not, cond, List, [], ◌∷◌, take, drop, position, reverse, Some, None}
use Rattle.std.specs.declared.option.Option.{Option}
use Rattle.std.specs.Option.{option_map}
use Rattle.std.specs.List.{position_or_len, before_first}
use Rattle.asl_fragments.specs.Bytes.{is_blank, begins_identifier, in_identifier}

abbrev pub is_no_blank : ℕ → Bool
is_no_blank c = not (is_blank c)

abbrev pub ends_word : ℕ → Bool
ends_word c = not (in_identifier c)

-- how many blanks stand at the front
abbrev pub blanks_before : List ℕ → ℕ
blanks_before text = position_or_len is_no_blank text

-- what stands behind the blanks at the front
abbrev pub past_blanks : List ℕ → List ℕ
past_blanks text = drop (blanks_before text) text

-- without the blanks at its end, and at both ends
abbrev pub without_blanks_behind : List ℕ → List ℕ
without_blanks_behind text = reverse (past_blanks (reverse text))

abbrev pub trimmed : List ℕ → List ℕ
trimmed text = without_blanks_behind (past_blanks text)

-- the letters, digits and `_` at the front, and what stands behind them
abbrev pub word_of : List ℕ → List ℕ
word_of text = before_first ends_word text

abbrev pub behind_word : List ℕ → List ℕ
behind_word text = drop (position_or_len ends_word text) text

-- a word that begins as an identifier does
abbrev pub is_identifier : List ℕ → Bool
is_identifier [] = false
is_identifier (c ∷ cs) = begins_identifier c

-- what stands behind this mark, where the text begins with it
abbrev pub behind_first : ℕ → List ℕ → Option (List ℕ)
behind_first mark [] = None
behind_first mark (c ∷ cs) = cond (c == mark) (Some cs) None

-- the same, blanks before the mark aside
abbrev pub behind_mark : ℕ → List ℕ → Option (List ℕ)
behind_mark mark text = behind_first mark (past_blanks text)

-- a text up to the first of these marks, and what stands behind that
abbrev pub split_at_mark : ℕ → List ℕ → Option (List ℕ × List ℕ)
split_at_mark mark text = option_map (λ n. (take n text, drop (n + 1) text)) (position (λ c. c == mark) text)
