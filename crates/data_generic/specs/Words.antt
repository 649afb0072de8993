-- What stands in the value of a data line: a word, a name, names behind `$`.
use Rattle.std.specs.Prelude.{ℕ, ◌==◌, ◌&&◌, ◌||◌, not, nat_le, Bool, false, cond, List, [], ◌∷◌, drop, map, Some, None}
use Rattle.std.specs.declared.option.Option.{Option}
use Rattle.std.specs.Char.{to_ascii_lowercase}
use Rattle.std.specs.List.{list_all, prefix_len, take_while}
use Rattle.hex_text.specs.Blanks.{is_blank, has_blanks_alone, drop_blanks}

-- a byte that is no blank
abbrev pub is_inner : ℕ → Bool
is_inner c = not (is_blank c)

-- the one word between blanks that a value is, where it is one
abbrev pub word_from : List ℕ → Option (List ℕ)
word_from text = cond (has_blanks_alone (drop (prefix_len is_inner text) text)) (Some (take_while is_inner text)) None

abbrev pub word_in : List ℕ → Option (List ℕ)
word_in value = word_from (drop_blanks value)

-- a letter or `_` (95)
abbrev pub is_name_start : ℕ → Bool
is_name_start c = (nat_le 65 c && nat_le c 90) || ((nat_le 97 c && nat_le c 122) || (c == 95))

-- that, or a digit
abbrev pub is_name_byte : ℕ → Bool
is_name_byte c = is_name_start c || (nat_le 48 c && nat_le c 57)

abbrev pub begins_name : List ℕ → Bool
begins_name [] = false
begins_name (c ∷ text) = is_name_start c

-- names are compared without case
abbrev pub name_key : List ℕ → List ℕ
name_key name = map to_ascii_lowercase name

abbrev pub has_name_bytes : List ℕ → Bool
has_name_bytes text = list_all is_name_byte text

-- the name that a word is, where it is one
abbrev pub name_of_word : Option (List ℕ) → Option (List ℕ)
name_of_word None = None
name_of_word (Some word) = cond (begins_name word && has_name_bytes word) (Some word) None

abbrev pub name_in : List ℕ → Option (List ℕ)
name_in value = name_of_word (word_in value)

-- whether a value begins with `$` (36), blanks aside
abbrev pub begins_reference : List ℕ → Bool
begins_reference [] = false
begins_reference (c ∷ text) = c == 36

abbrev pub is_reference : List ℕ → Bool
is_reference value = begins_reference (drop_blanks value)

-- a `$` and a name at the front: the name, and what stands behind it
abbrev pub named_from : List ℕ → List ℕ × List ℕ
named_from text = (take_while is_name_byte text, drop (prefix_len is_name_byte text) text)

abbrev pub reference_at : List ℕ → Option (List ℕ × List ℕ)
reference_at [] = None
reference_at (c ∷ text) = cond (c == 36 && begins_name text) (Some (named_from text)) None

-- a name behind `$`, or two of them with a hyphen (45) between
pub data Reference : Type 0 where
  Offset : List ℕ → Reference
  Difference : List ℕ → List ℕ → Reference

abbrev pub with_second : List ℕ → Option (List ℕ × List ℕ) → Option Reference
with_second name None = None
with_second name (Some other) = cond (has_blanks_alone other.1) (Some (Difference name other.0)) None

abbrev pub with_first : List ℕ → List ℕ → Option Reference
with_first name [] = Some (Offset name)
with_first name (c ∷ text) = cond (c == 45) (with_second name (reference_at (drop_blanks text))) None

abbrev pub reference_by : Option (List ℕ × List ℕ) → Option Reference
reference_by None = None
reference_by (Some first) = with_first first.0 (drop_blanks first.1)

-- the reference that a value is, where it is one; blanks may stand around it and around the hyphen
abbrev pub reference_in : List ℕ → Option Reference
reference_in value = reference_by (reference_at (drop_blanks value))
