-- Runs of bytes of a line that are read at once.
use Rattle.std.specs.Prelude.{◌≡◌, ℕ, ◌+◌, ◌*◌, Bool, true, false, ◌&&◌, not, List, [], ◌∷◌, ◌++◌, drop, fold}
use Rattle.std.specs.Char.{digit_value}
use Rattle.iasl_messages.specs.declared.place.Place.{Place}
use Rattle.iasl_messages.specs.declared.place.Line.{Line}
use Rattle.asl_lexer.specs.declared.class.Class.{Class}
use Rattle.asl_lexer.specs.declared.class.Class.TheVariants as c
use Rattle.asl_lexer.specs.declared.token.Token.{Token}
use Rattle.asl_lexer.specs.declared.mode.Mode.{Mode}
use Rattle.asl_lexer.specs.Class.{class_of, takes_equals, doubles}
use Rattle.asl_lexer.specs.Cut.{in_name_class, begins_name_class, behind_number_class, is_whitespace_class, in_text_class, in_line_class}
use Rattle.asl_lexer.specs.Scan.{MarkedByte, scan, is_plain}
use Rattle.asl_lexer.specs.Marks.{marks_from}

-- a blank, or the end of a line
abbrev pub is_whitespace : ℕ → Bool
is_whitespace b = is_whitespace_class (class_of b)

-- a letter, a digit or `_`
abbrev pub in_word : ℕ → Bool
in_word b = in_name_class (class_of b)

-- a letter or `_`
abbrev pub begins_word : ℕ → Bool
begins_word b = begins_name_class (class_of b)

abbrev pub is_dot_class : Class → Bool
is_dot_class c.Dot = true
is_dot_class _ = false

abbrev pub is_dot : ℕ → Bool
is_dot b = is_dot_class (class_of b)

-- a byte of a string that stands for itself
abbrev pub in_string : ℕ → Bool
in_string b = in_text_class (class_of b) && is_plain b

-- a letter or a digit
abbrev pub adjoins_number : ℕ → Bool
adjoins_number b = behind_number_class (class_of b)

-- stands in a comment to the line's end
abbrev pub in_comment : ℕ → Bool
in_comment b = in_line_class (class_of b)

abbrev pub in_block_class : Class → Bool
in_block_class c.Star = false
in_block_class _ = true

-- stands in a block comment and ends none
abbrev pub in_block : ℕ → Bool
in_block b = in_block_class (class_of b)

-- a character that is a symbol whatever stands behind it
abbrev pub is_alone : ℕ → Bool
is_alone b = not (takes_equals b) && not (doubles b)

-- the value of digits behind those of a value
abbrev pub number_of : ℕ → ℕ → List ℕ → ℕ
number_of base value digits = fold (λ v b. v * base + digit_value b) value digits

-- the end of a line, or of all lines
abbrev pub AtBreak : List MarkedByte → Type 0
AtBreak [] = Unit {0}
AtBreak (m ∷ ms) = m.byte ≡ 10

-- what is left of a line behind so many of its bytes
abbrev pub marks_behind : Line → ℕ → List MarkedByte
marks_behind l i = marks_from l.file l.number (i + 1) (drop i l.text)

-- Whatever lines stand behind the line, the reading comes over so many of these bytes of it to this mode and these tokens.
abbrev pub Passes : Place → List ℕ → ℕ → Mode → List Token → Mode → List Token → Type 0
Passes at bytes width mode old next new = (rest : List MarkedByte) → AtBreak rest
    → scan (marks_from at.file at.line at.column bytes ++ rest) mode old ≡ scan
    (marks_from at.file at.line (at.column + width) (drop width bytes) ++ rest) next new
