-- The parts of a line: `[anything] Label : value [remark]`, where the parts in brackets may be missing.
use Rattle.std.specs.Prelude.{ℕ, ◌+◌, not, ◌==◌, ◌&&◌, Bool, true, false, cond, List, [], ◌∷◌, ◌++◌, take, drop, position, Some, None}
use Rattle.std.specs.declared.option.Option.{Option}
use Rattle.iasl_messages.specs.declared.place.Place.{Place}
use Rattle.iasl_messages.specs.declared.place.Line.{Line}
use Rattle.data_text.specs.declared.field_line.FieldLine.{FieldLine}
use Rattle.hex_text.specs.Blanks.{has_blanks_alone, drop_blanks}
use Rattle.data_text.specs.Labels.{label_key, is_one_word, ending}

-- a text up to the first `[` (91) outside quotes (34), at which a remark begins
abbrev pub before_remark : Bool → List ℕ → List ℕ
before_remark quoted [] = []
before_remark quoted (c ∷ rest) =
    cond (c == 91 && not quoted) [] (c ∷ before_remark (cond (c == 34) (not quoted) quoted) rest)

-- what stands behind the part in brackets at the front, and whether there is one
abbrev pub behind_closing : List ℕ → List ℕ → Option ℕ → List ℕ × Bool
behind_closing text inside None = (text, false)
behind_closing text inside (Some end) = (drop (end + 1) inside, true)

abbrev pub after_bracket : List ℕ → List ℕ × Bool
after_bracket [] = ([], false)
after_bracket (c ∷ inside) = cond (c == 91) (behind_closing (c ∷ inside) inside (position (λ d. d == 93) inside)) (c ∷ inside, false)

-- what stands before and behind the first colon (58)
abbrev pub halves_at : List ℕ → Option ℕ → Option (List ℕ × List ℕ)
halves_at text None = None
halves_at text (Some end) = Some (take end text, drop (end + 1) text)

abbrev pub halves : List ℕ → Option (List ℕ × List ℕ)
halves text = halves_at text (position (λ c. c == 58) text)

-- column 1 of a line
abbrev pub place_of : Line → Place
place_of line = record { file = line.file; line = line.number; column = 1 }

-- a field line, and whether its value goes on in the next line
abbrev pub Begun : Type 0
Begun = FieldLine × Bool

abbrev pub begun_with : Line → Bool → Option (List ℕ × List ℕ) → Begun
begun_with line bracketed None =
    (record { place = place_of line; bracketed = bracketed; colon = false; label = []; one_word = true; value = [] }, false)
begun_with line bracketed (Some found) = (
  record {
    place = place_of line;
    bracketed = bracketed;
    colon = true;
    label = label_key found.0;
    one_word = is_one_word found.0;
    value =
        (ending found.1).0;
  },
  (ending found.1).1,
)

abbrev pub begun_behind : Line → List ℕ × Bool → Begun
begun_behind line text = begun_with line text.1 (halves (before_remark false text.0))

-- the field line that a line begins; `bare` is its text with comments as blanks
abbrev pub begun : Line → List ℕ → Begun
begun line bare = begun_behind line (after_bracket (drop_blanks bare))

-- a field line whose value goes on in this text: the backslash and the line's end count as one blank (32)
abbrev pub extended_with : FieldLine → List ℕ × Bool → Begun
extended_with pending more = (record pending { value = pending.value ++ 32 ∷ more.0 }, more.1)

abbrev pub extended : FieldLine → List ℕ → Begun
extended pending bare = extended_with pending (ending (before_remark false bare))

-- a line with a colon and no value is a heading, which is dropped
abbrev pub kept : FieldLine → List FieldLine
kept line = cond (line.colon && has_blanks_alone line.value) [] (line ∷ [])
