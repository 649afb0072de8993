-- Marked bytes as blanks, comments and tokens in turn, each token the longest that begins at its place.
use Rattle.std.specs.Prelude.{◌≡◌, ℕ, ◌+◌, ◌*◌, ◌-◌, ◌^◌, ◌<◌, ◌≤◌, Bool, true, false, ◌&&◌, ◌||◌, ◌==◌, nat_lt, List, [], ◌∷◌, ◌++◌, Some}
use Rattle.std.specs.Prelude.{None, Result, Ok, Err}
use Rattle.std.specs.Char.{digit_value, is_digit, to_ascii_uppercase}
use Rattle.iasl_messages.specs.declared.place.Place.{Place}
use Rattle.iasl_messages.specs.declared.place.Line.{Line}
use Rattle.iasl_messages.specs.declared.message.Stage.{Stage}
use Rattle.iasl_messages.specs.declared.message.Stage.TheVariants.{Refused, Memory}
use Rattle.asl_lexer.specs.declared.class.Class.{Class}
use Rattle.asl_lexer.specs.declared.class.Class.TheVariants as c
use Rattle.asl_lexer.specs.declared.class.Radix.{Radix}
use Rattle.asl_lexer.specs.declared.class.Radix.TheVariants.{Octal, Decimal, Hexadecimal}
use Rattle.asl_lexer.specs.declared.token.Token.{Token}
use Rattle.asl_lexer.specs.declared.mode.Fault.{Fault}
use Rattle.asl_lexer.specs.Class.{class_of, base_of, takes_equals, doubles, shifts}
use Rattle.asl_lexer.specs.Scan.{MarkedByte, end_at, bad_character, open_string, open_comment, bad_escape, large_number, with_name}
use Rattle.asl_lexer.specs.Scan.{with_number, with_string, with_symbol, caret_text, first_of, is_plain, escaped}
use Rattle.asl_lexer.specs.Marks.{joined, message_of}

-- ---- bytes

abbrev pub Each : (MarkedByte → Bool) → List MarkedByte → Type 0
Each p [] = Unit {0}
Each p (m ∷ ms) = (p m ≡ true) × Each p ms

-- what comes does not go on
abbrev pub Stops : (MarkedByte → Bool) → List MarkedByte → Type 0
Stops p [] = Unit {0}
Stops p (m ∷ ms) = p m ≡ false

abbrev pub class : MarkedByte → Class
class m = class_of m.byte

abbrev pub in_name_class : Class → Bool
in_name_class c.Letter = true
in_name_class c.Underscore = true
in_name_class c.Zero = true
in_name_class c.Digit = true
in_name_class _ = false

abbrev pub begins_name_class : Class → Bool
begins_name_class c.Letter = true
begins_name_class c.Underscore = true
begins_name_class _ = false

-- the column behind the last of some bytes
abbrev pub end_of : List MarkedByte → ℕ
end_of [] = 0
end_of (m ∷ []) = end_at m.place
end_of (m ∷ n ∷ ms) = end_of (n ∷ ms)

-- a letter or a digit
abbrev pub behind_number_class : Class → Bool
behind_number_class c.Letter = true
behind_number_class c.Zero = true
behind_number_class c.Digit = true
behind_number_class _ = false

abbrev pub in_line_class : Class → Bool
in_line_class c.Break = false
in_line_class _ = true

-- a blank, or the end of a line
abbrev pub is_whitespace_class : Class → Bool
is_whitespace_class c.Blank = true
is_whitespace_class c.Break = true
is_whitespace_class _ = false

abbrev pub in_text_class : Class → Bool
in_text_class c.Break = false
in_text_class c.Quote = false
in_text_class c.Backslash = false
in_text_class _ = true

-- a slash before it begins a comment or is no token of its own
abbrev pub behind_slash_class : Class → Bool
behind_slash_class c.Slash = true
behind_slash_class c.Star = true
behind_slash_class c.Equals = true
behind_slash_class _ = false

abbrev pub begins_none_class : Class → Bool
begins_none_class c.Dot = true
begins_none_class c.Other = true
begins_none_class _ = false

-- begins a symbol; a slash and a caret are told apart
abbrev pub begins_sign_class : Class → Bool
begins_sign_class c.Star = true
begins_sign_class c.Equals = true
begins_sign_class c.Sign = true
begins_sign_class _ = false

abbrev pub is_caret_class : Class → Bool
is_caret_class c.Caret = true
is_caret_class _ = false

abbrev pub is_equals_class : Class → Bool
is_equals_class c.Equals = true
is_equals_class _ = false

abbrev pub in_name : MarkedByte → Bool
in_name m = in_name_class (class m)

abbrev pub begins_name : MarkedByte → Bool
begins_name m = begins_name_class (class m)

abbrev pub behind_number : MarkedByte → Bool
behind_number m = behind_number_class (class m)

abbrev pub in_line : MarkedByte → Bool
in_line m = in_line_class (class m)

abbrev pub in_text : MarkedByte → Bool
in_text m = in_text_class (class m)

abbrev pub behind_slash : MarkedByte → Bool
behind_slash m = behind_slash_class (class m)

abbrev pub is_caret : MarkedByte → Bool
is_caret m = is_caret_class (class m)

abbrev pub is_equals : MarkedByte → Bool
is_equals m = is_equals_class (class m)

abbrev pub digit_in : ℕ → MarkedByte → Bool
digit_in base m = is_digit m.byte base

abbrev pub is_x : MarkedByte → Bool
is_x m = m.byte == 120

abbrev pub upper : MarkedByte → ℕ
upper m = to_ascii_uppercase m.byte

-- ---- words and paths

abbrev pub places : List MarkedByte → List Place
places [] = []
places (m ∷ ms) = m.place ∷ places ms

-- These bytes are a word, or a path: whether it is a path, its place and its text. A path has a prefix or
-- a dot: `\` or carets before a word, or words joined by dots.
pub data IsName : Bool → Place → List ℕ → List MarkedByte → Type 0 where
  word : {m : MarkedByte} → begins_name m ≡ true → IsName false m.place (upper m ∷ []) (m ∷ [])
  rooted : {r m : MarkedByte} → class r ≡ c.Backslash → begins_name m ≡ true → IsName true r.place (92 ∷ upper m ∷ []) (r ∷ m ∷ [])
  raised : (before : List Place) (last : Place) (cs : List MarkedByte) (m : MarkedByte) → Each is_caret cs → places cs ≡ before ++ last ∷ []
      → begins_name m ≡ true
      → IsName true (first_of before last) (caret_text before ++ 94 ∷ upper m ∷ []) (cs ++ m ∷ [])
  more : {path : Bool} {from : Place} {text : List ℕ} {w : List MarkedByte} (m : MarkedByte) → IsName path from text w → in_name m ≡ true →
      IsName path from (text ++ upper m ∷ []) (w ++ m ∷ [])
  dotted : {path : Bool} {from : Place} {text : List ℕ} {w : List MarkedByte} (d m : MarkedByte) → IsName path from text w → class d ≡ c.Dot
      → begins_name m ≡ true → IsName true from ((text ++ 46 ∷ []) ++ upper m ∷ []) (w ++ d ∷ m ∷ [])

-- no more of a word comes, and no dot and word
abbrev pub EndsName : List MarkedByte → Type 0
EndsName [] = Unit {0}
EndsName (m ∷ ms) = (in_name m ≡ false) × (class m ≡ c.Dot → Stops begins_name ms)

abbrev pub no_name_by : Class → Bool → Bool
no_name_by c.Caret b = b
no_name_by c.Letter b = false
no_name_by c.Underscore b = false
no_name_by _ b = true

-- carets or none, and then no word
abbrev pub no_name_behind : List MarkedByte → Bool
no_name_behind [] = true
no_name_behind (m ∷ ms) = no_name_by (class m) (no_name_behind ms)

-- ---- numbers

-- These bytes are a number but `0`: its base, its place and its value.
pub data IsNumeral : Radix → Place → ℕ → List MarkedByte → Type 0 where
  decimal : {m : MarkedByte} → class m ≡ c.Digit → IsNumeral Decimal m.place (digit_value m.byte) (m ∷ [])
  octal : {z m : MarkedByte} → class z ≡ c.Zero → digit_in 8 m ≡ true → IsNumeral Octal z.place (digit_value m.byte) (z ∷ m ∷ [])
  hexadecimal : {z x m : MarkedByte} → class z ≡ c.Zero → (x.byte == 120) ≡ true → digit_in 16 m ≡ true →
      IsNumeral Hexadecimal z.place (digit_value m.byte) (z ∷ x ∷ m ∷ [])
  more : {radix : Radix} {from : Place} {value : ℕ} {w : List MarkedByte} (m : MarkedByte) → IsNumeral radix from value w →
      digit_in (base_of radix) m ≡ true
      → IsNumeral radix from (value * base_of radix + digit_value m.byte) (w ++ m ∷ [])

-- ---- strings

-- The bytes behind a backslash are an escape of one to three octal digits, or of `x` and one or two
-- hexadecimal digits: its base, its value, and how many digits may still follow.
pub data IsCode : Radix → ℕ → ℕ → List MarkedByte → Type 0 where
  octal : {m : MarkedByte} → in_line m ≡ true → escaped m.byte ≡ None → digit_in 8 m ≡ true → IsCode Octal (digit_value m.byte) 2 (m ∷ [])
  hexadecimal : {x m : MarkedByte} → in_line x ≡ true → escaped x.byte ≡ None → digit_in 8 x ≡ false → (x.byte == 120) ≡ true →
      digit_in 16 m ≡ true
      → IsCode Hexadecimal (digit_value m.byte) 1 (x ∷ m ∷ [])
  more : {radix : Radix} {value left : ℕ} {w : List MarkedByte} (m : MarkedByte) → IsCode radix value left w → 0 < left →
      digit_in (base_of radix) m ≡ true
      → IsCode radix (value * base_of radix + digit_value m.byte) (left - 1) (w ++ m ∷ [])

-- What stands in a string so far: its bytes, or the first fault in it.
pub data Content : Result (List ℕ) Fault → List MarkedByte → List MarkedByte → Type 0 where
  no_bytes : {bytes : List MarkedByte} → Content (Ok []) bytes bytes
  plain : {text : List ℕ} {m : MarkedByte} {bytes rest : List MarkedByte} → Content (Ok text) bytes (m ∷ rest) → in_text m ≡ true →
      is_plain m.byte ≡ true → Content (Ok (text ++ m.byte ∷ [])) bytes rest
  bad_byte : {text : List ℕ} {m : MarkedByte} {bytes rest : List MarkedByte} → Content (Ok text) bytes (m ∷ rest) → in_text m ≡ true →
      is_plain m.byte ≡ false → Content (Err (bad_character m.place)) bytes rest
  escape : {text : List ℕ} {x : ℕ} {s m : MarkedByte} {bytes rest : List MarkedByte} → Content (Ok text) bytes (s ∷ m ∷ rest) →
      class s ≡ c.Backslash → in_line m ≡ true → escaped m.byte ≡ Some x
      → Content (Ok (text ++ x ∷ [])) bytes rest
  code : {text : List ℕ} {radix : Radix} {value left : ℕ} {s : MarkedByte} {bytes rest : List MarkedByte} (w : List MarkedByte) →
      Content (Ok text) bytes (s ∷ w ++ rest) → class s ≡ c.Backslash
      → IsCode radix value left w → Stops (λ m. nat_lt 0 left && digit_in (base_of radix) m) rest → is_plain value ≡ true →
      Content (Ok (text ++ value ∷ [])) bytes rest
  bad_code : {text : List ℕ} {radix : Radix} {value left : ℕ} {s : MarkedByte} {bytes rest : List MarkedByte} (w : List MarkedByte) →
      Content (Ok text) bytes (s ∷ w ++ rest) → class s ≡ c.Backslash
      → IsCode radix value left w → Stops (λ m. nat_lt 0 left && digit_in (base_of radix) m) rest → is_plain value ≡ false →
      Content (Err (bad_escape s.place)) bytes rest
  no_code : {text : List ℕ} {s x : MarkedByte} {bytes rest : List MarkedByte} → Content (Ok text) bytes (s ∷ x ∷ rest) →
      class s ≡ c.Backslash → in_line x ≡ true → escaped x.byte ≡ None → digit_in 8 x ≡ false
      → (x.byte == 120) ≡ true → Stops (digit_in 16) rest → Content (Err (bad_escape s.place)) bytes rest
  no_escape : {text : List ℕ} {s m : MarkedByte} {bytes rest : List MarkedByte} → Content (Ok text) bytes (s ∷ m ∷ rest) →
      class s ≡ c.Backslash → in_line m ≡ true → escaped m.byte ≡ None → digit_in 8 m ≡ false
      → (m.byte == 120) ≡ false → Content (Err (bad_escape s.place)) bytes rest
  passed : {fault : Fault} {m : MarkedByte} {bytes rest : List MarkedByte} → Content (Err fault) bytes (m ∷ rest) → in_text m ≡ true →
      Content (Err fault) bytes rest
  passed_escape : {fault : Fault} {s m : MarkedByte} {bytes rest : List MarkedByte} → Content (Err fault) bytes (s ∷ m ∷ rest) →
      class s ≡ c.Backslash → in_line m ≡ true → Content (Err fault) bytes rest

-- what ends a string that is open: the line's end or the end, also behind a backslash
pub data Breaks : List MarkedByte → Type 0 where
  at_end : Breaks []
  at_line : {m : MarkedByte} {rest : List MarkedByte} → class m ≡ c.Break → Breaks (m ∷ rest)
  at_escape : {s : MarkedByte} → class s ≡ c.Backslash → Breaks (s ∷ [])
  at_escaped_line : {s m : MarkedByte} {rest : List MarkedByte} → class s ≡ c.Backslash → class m ≡ c.Break → Breaks (s ∷ m ∷ rest)

-- ---- comments

-- what stands in a block comment so far, and whether a star is last
pub data Inside : Bool → List MarkedByte → List MarkedByte → Type 0 where
  opened : {bytes : List MarkedByte} → Inside false bytes bytes
  a_star : {s : Bool} {m : MarkedByte} {bytes rest : List MarkedByte} → Inside s bytes (m ∷ rest) → class m ≡ c.Star →
      Inside true bytes rest
  no_star : {m : MarkedByte} {bytes rest : List MarkedByte} → Inside false bytes (m ∷ rest) → (class m ≡ c.Star → ⊥) →
      Inside false bytes rest
  behind_star : {m : MarkedByte} {bytes rest : List MarkedByte} → Inside true bytes (m ∷ rest) → (class m ≡ c.Star → ⊥) →
      (class m ≡ c.Slash → ⊥) → Inside false bytes rest

-- ---- symbols

-- two characters are a symbol: `=` behind one, or one doubled
abbrev pub are_two : ℕ → ℕ → Bool
are_two first second = (second == 61 && takes_equals first) || (second == first && doubles first)

-- three characters are a symbol: `=` behind a shift
abbrev pub are_three : ℕ → ℕ → ℕ → Bool
are_three first second third = third == 61 && (second == first && shifts first)

-- ---- the text

-- These tokens were cut from the front of the text; the bytes of the last list are left.
pub data Cut (text : List MarkedByte) : List Token → List MarkedByte → Type 0 where
  begun : Cut text [] text
  a_blank : {done : List Token} {m : MarkedByte} {rest : List MarkedByte} → Cut text done (m ∷ rest) → is_whitespace_class (class m) ≡ true
      → Cut text done rest
  a_line : {done : List Token} {a b : MarkedByte} {rest : List MarkedByte} (w : List MarkedByte) → Cut text done (a ∷ b ∷ w ++ rest) →
      class a ≡ c.Slash → class b ≡ c.Slash → Each in_line w → Stops in_line rest
      → Cut text done rest
  a_block : {done : List Token} {a b e : MarkedByte} {bytes rest : List MarkedByte} → Cut text done (a ∷ b ∷ bytes) → class a ≡ c.Slash →
      class b ≡ c.Star → Inside true bytes (e ∷ rest) → class e ≡ c.Slash
      → Cut text done rest
  a_name : {done : List Token} {path : Bool} {from : Place} {name : List ℕ} {rest : List MarkedByte} (w : List MarkedByte) →
      Cut text done (w ++ rest) → IsName path from name w → EndsName rest
      → Cut text (with_name done path from name) rest
  a_root : {done : List Token} {m : MarkedByte} {rest : List MarkedByte} → Cut text done (m ∷ rest) → class m ≡ c.Backslash →
      Stops begins_name rest → Cut text (with_name done true m.place (92 ∷ [])) rest
  a_zero : {done : List Token} {m : MarkedByte} {rest : List MarkedByte} → Cut text done (m ∷ rest) → class m ≡ c.Zero →
      Stops (digit_in 8) rest → Stops is_x rest → Stops behind_number rest
      → Cut text (with_number done m.place 0 (end_at m.place)) rest
  a_number : {done : List Token} {radix : Radix} {from : Place} {value : ℕ} {rest : List MarkedByte} (w : List MarkedByte) →
      Cut text done (w ++ rest) → IsNumeral radix from value w → value < 2 ^ 64
      → Stops (digit_in (base_of radix)) rest → Stops behind_number rest → Cut text (with_number done from value (end_of w)) rest
  a_string : {done : List Token} {q e : MarkedByte} {string : List ℕ} {bytes rest : List MarkedByte} → Cut text done (q ∷ bytes) →
      class q ≡ c.Quote → Content (Ok string) bytes (e ∷ rest) → class e ≡ c.Quote
      → Cut text (with_string done q.place (end_at e.place) string) rest
  a_caret : {done : List Token} {m : MarkedByte} {rest : List MarkedByte} → Cut text done (m ∷ rest) → class m ≡ c.Caret →
      Stops is_equals rest → no_name_behind rest ≡ true
      → Cut text (with_symbol done m.place (94 ∷ [])) rest
  caret_equals : {done : List Token} {m e : MarkedByte} {rest : List MarkedByte} → Cut text done (m ∷ e ∷ rest) → class m ≡ c.Caret →
      class e ≡ c.Equals → Cut text (with_symbol done m.place (94 ∷ 61 ∷ [])) rest
  a_slash : {done : List Token} {m : MarkedByte} {rest : List MarkedByte} → Cut text done (m ∷ rest) → class m ≡ c.Slash →
      Stops behind_slash rest → Cut text (with_symbol done m.place (47 ∷ [])) rest
  slash_equals : {done : List Token} {m e : MarkedByte} {rest : List MarkedByte} → Cut text done (m ∷ e ∷ rest) → class m ≡ c.Slash →
      class e ≡ c.Equals → Cut text (with_symbol done m.place (47 ∷ 61 ∷ [])) rest
  one_sign : {done : List Token} {m : MarkedByte} {rest : List MarkedByte} → Cut text done (m ∷ rest) → begins_sign_class (class m) ≡ true →
      Stops (λ n. are_two m.byte n.byte) rest
      → Cut text (with_symbol done m.place (m.byte ∷ [])) rest
  two_signs : {done : List Token} {m n : MarkedByte} {rest : List MarkedByte} → Cut text done (m ∷ n ∷ rest) →
      begins_sign_class (class m) ≡ true → are_two m.byte n.byte ≡ true
      → Stops (λ o. are_three m.byte n.byte o.byte) rest → Cut text (with_symbol done m.place (m.byte ∷ n.byte ∷ [])) rest
  three_signs : {done : List Token} {m n o : MarkedByte} {rest : List MarkedByte} → Cut text done (m ∷ n ∷ o ∷ rest) →
      begins_sign_class (class m) ≡ true → are_three m.byte n.byte o.byte ≡ true
      → Cut text (with_symbol done m.place (m.byte ∷ n.byte ∷ o.byte ∷ [])) rest

-- the bytes begin with no token, or with one that does not end
pub data Bad : List MarkedByte → Fault → Type 0 where
  no_token : {m : MarkedByte} {rest : List MarkedByte} → begins_none_class (class m) ≡ true → Bad (m ∷ rest) (bad_character m.place)
  large : {radix : Radix} {from : Place} {value : ℕ} (w rest : List MarkedByte) → IsNumeral radix from value w → 2 ^ 64 ≤ value →
      Bad (w ++ rest) (large_number from)
  behind_numeral : {radix : Radix} {from : Place} {value : ℕ} (w : List MarkedByte) (m : MarkedByte) (rest : List MarkedByte) →
      IsNumeral radix from value w → value < 2 ^ 64 → digit_in (base_of radix) m ≡ false → behind_number m ≡ true
      → Bad (w ++ m ∷ rest) (bad_character m.place)
  behind_zero : {z m : MarkedByte} {rest : List MarkedByte} → class z ≡ c.Zero → digit_in 8 m ≡ false → (m.byte == 120) ≡ false →
      behind_number m ≡ true → Bad (z ∷ m ∷ rest) (bad_character m.place)
  no_hexadecimal : {z x : MarkedByte} {rest : List MarkedByte} → class z ≡ c.Zero → (x.byte == 120) ≡ true → Stops (digit_in 16) rest →
      Bad (z ∷ x ∷ rest) (bad_character x.place)
  string_open : {q : MarkedByte} {string : Result (List ℕ) Fault} {bytes rest : List MarkedByte} → class q ≡ c.Quote →
      Content string bytes rest → Breaks rest → Bad (q ∷ bytes) (open_string q.place)
  string_bad : {q e : MarkedByte} {fault : Fault} {bytes rest : List MarkedByte} → class q ≡ c.Quote → Content (Err fault) bytes (e ∷ rest)
      → class e ≡ c.Quote → Bad (q ∷ bytes) fault
  comment_open : {a b : MarkedByte} {s : Bool} {bytes : List MarkedByte} → class a ≡ c.Slash → class b ≡ c.Star → Inside s bytes [] →
      Bad (a ∷ b ∷ bytes) (open_comment a.place)

-- the text is these tokens
abbrev pub CutsInto : List MarkedByte → List Token → Type 0
CutsInto text tokens = Cut text tokens []

-- a front of the text is tokens, and the fault stands behind it
pub record FailsWith (text : List MarkedByte) (fault : Fault) : Type 0 where
  pub done : List Token
  pub rest : List MarkedByte
  pub cut : Cut text done rest
  pub bad : Bad rest fault

-- the lines are these tokens
abbrev pub IsCut : List Line → List Token → Type 0
IsCut lines tokens = CutsInto (joined lines) tokens

-- the lines have this first fault
abbrev pub HasFault : List Line → Fault → Type 0
HasFault lines fault = FailsWith (joined lines) fault

-- why the lines are refused: one message, which tells their fault
abbrev pub Explains : Stage → List Line → Type 0
Explains Memory lines = Unit {0}
Explains (Refused messages) lines = (fault : Fault) × (messages ≡ message_of fault ∷ []) × HasFault lines fault
