-- Labels, and values that go on.
use Rattle.std.specs.Prelude.{ℕ, ◌==◌, ◌&&◌, ◌||◌, Bool, true, false, cond, List, [], ◌∷◌, Some, None}
use Rattle.std.specs.declared.option.Option.{Option}
use Rattle.std.specs.Option.{option_map}
use Rattle.std.specs.Char.{to_ascii_lowercase}
use Rattle.hex_text.specs.Blanks.{is_blank, has_blanks_alone, drop_blanks}

-- a label as it is compared: in lower case, without its blanks
abbrev pub label_key : List ℕ → List ℕ
label_key [] = []
label_key (c ∷ rest) = cond (is_blank c) (label_key rest) (to_ascii_lowercase c ∷ label_key rest)

-- whether blanks stand at the ends of a label alone
abbrev pub has_no_inner : List ℕ → Bool
has_no_inner [] = true
has_no_inner (c ∷ rest) = cond (is_blank c) (has_blanks_alone rest) (has_no_inner rest)

abbrev pub is_one_word : List ℕ → Bool
is_one_word label = has_no_inner (drop_blanks label)

-- what stands before the backslash (92) that is the last byte but for blanks
abbrev pub before_backslash : List ℕ → Option (List ℕ)
before_backslash [] = None
before_backslash (c ∷ rest) =
    cond (c == 92 && has_blanks_alone rest) (Some []) (option_map (λ front. c ∷ front) (before_backslash rest))

abbrev pub ending_of : List ℕ → Option (List ℕ) → List ℕ × Bool
ending_of text None = (text, false)
ending_of text (Some front) = (front, true)

-- the text without the backslash at its end, and whether it has one, so that it goes on in the next line
abbrev pub ending : List ℕ → List ℕ × Bool
ending text = ending_of text (before_backslash text)
