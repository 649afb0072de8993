-- Marked bytes in parts: blanks, comments and tokens, where each token is the longest that begins at its place.
use Rattle.std.specs.Prelude.{ℕ, ◌≡◌, ◌^◌, ◌<◌, Bool, true, List, [], ◌∷◌, ◌++◌, length, ◌⊎◌, Ok}
use Rattle.iasl_messages.specs.declared.place.Place.{Place}
use Rattle.asl_lexer.specs.declared.class.Class.TheVariants as c
use Rattle.asl_lexer.specs.declared.class.Radix.{Radix}
use Rattle.asl_lexer.specs.declared.token.Token.{Token}
use Rattle.asl_lexer.specs.declared.token.TokenKind.{TokenKind}
use Rattle.asl_lexer.specs.declared.token.TokenKind.TheVariants as k
use Rattle.asl_lexer.specs.Scan.{MarkedByte, end_at, column_after, name_kind}
use Rattle.asl_lexer.specs.Cut.{Each, Stops, class, end_of, in_line, is_whitespace_class, begins_sign_class, IsName, IsNumeral, Content}
use Rattle.asl_lexer.specs.Cut.{Inside, are_two, are_three}

-- ---- tokens

-- a token of this kind at a place, which ends before the column `end`
abbrev pub token : TokenKind → Place → ℕ → ℕ → List ℕ → Token
token kind place end number text = record { kind = kind; place = place; end = end; number = number; text = text }

-- a symbol has a byte for each of its characters
abbrev pub symbol : Place → List ℕ → Token
symbol place text = token k.Symbol place (column_after place.column (length text)) 0 text

-- These bytes are this token, whatever stands around them: a word or a path, a lone `\`; `0` or another number that fits
-- 64 bits; a string; or a symbol of one, two or three characters.
pub data IsToken : Token → List MarkedByte → Type 0 where
  a_name : {path : Bool} {from : Place} {name : List ℕ} {w : List MarkedByte} → IsName path from name w →
      IsToken (token (name_kind path) from (column_after from.column (length name)) 0 name) w
  a_root : {m : MarkedByte} → class m ≡ c.Backslash → IsToken (token k.Path m.place (column_after m.place.column 1) 0 (92 ∷ [])) (m ∷ [])
  a_zero : {m : MarkedByte} → class m ≡ c.Zero → IsToken (token k.Number m.place (end_at m.place) 0 []) (m ∷ [])
  a_number : {radix : Radix} {from : Place} {value : ℕ} {w : List MarkedByte} → IsNumeral radix from value w → value < 2 ^ 64 →
      IsToken (token k.Number from (end_of w) value []) w
  a_string : {q e : MarkedByte} {string : List ℕ} (w : List MarkedByte) → class q ≡ c.Quote → Content (Ok string) (w ++ e ∷ []) (e ∷ []) →
      class e ≡ c.Quote
      → IsToken (token k.Text q.place (end_at e.place) 0 string) (q ∷ w ++ e ∷ [])
  a_caret : {m : MarkedByte} → class m ≡ c.Caret → IsToken (symbol m.place (94 ∷ [])) (m ∷ [])
  caret_equals : {m e : MarkedByte} → class m ≡ c.Caret → class e ≡ c.Equals → IsToken (symbol m.place (94 ∷ 61 ∷ [])) (m ∷ e ∷ [])
  a_slash : {m : MarkedByte} → class m ≡ c.Slash → IsToken (symbol m.place (47 ∷ [])) (m ∷ [])
  slash_equals : {m e : MarkedByte} → class m ≡ c.Slash → class e ≡ c.Equals → IsToken (symbol m.place (47 ∷ 61 ∷ [])) (m ∷ e ∷ [])
  one_sign : {m : MarkedByte} → begins_sign_class (class m) ≡ true → IsToken (symbol m.place (m.byte ∷ [])) (m ∷ [])
  two_signs : {m n : MarkedByte} → begins_sign_class (class m) ≡ true → are_two m.byte n.byte ≡ true →
      IsToken (symbol m.place (m.byte ∷ n.byte ∷ [])) (m ∷ n ∷ [])
  three_signs : {m n o : MarkedByte} → begins_sign_class (class m) ≡ true → are_three m.byte n.byte o.byte ≡ true →
      IsToken (symbol m.place (m.byte ∷ n.byte ∷ o.byte ∷ [])) (m ∷ n ∷ o ∷ [])

-- No longer front of what was left than these bytes is a token of any kind, where that stands behind them.
abbrev pub NoLonger : List MarkedByte → List MarkedByte → Type 0
NoLonger w rest = (more behind : List MarkedByte) (other : Token) → rest ≡ more ++ behind → IsToken other (w ++ more) → more ≡ []

-- ---- comments

-- These bytes are a comment before those: `//` up to the line's end, or `/*` up to the next `*/`.
pub data IsComment : List MarkedByte → List MarkedByte → Type 0 where
  a_line : {a b : MarkedByte} {w rest : List MarkedByte} → class a ≡ c.Slash → class b ≡ c.Slash → Each in_line w → Stops in_line rest →
      IsComment (a ∷ b ∷ w) rest
  a_block : {a b e : MarkedByte} {rest : List MarkedByte} (w : List MarkedByte) → class a ≡ c.Slash → class b ≡ c.Star →
      Inside true (w ++ e ∷ rest) (e ∷ rest) → class e ≡ c.Slash → IsComment (a ∷ b ∷ w ++ e ∷ []) rest

-- the first bytes open a comment
abbrev pub BeginsComment : List MarkedByte → Type 0
BeginsComment (a ∷ b ∷ rest) = (class a ≡ c.Slash) × ((class b ≡ c.Slash) ⊎ (class b ≡ c.Star))
BeginsComment _ = ⊥

-- ---- parts

pub data Part : Type 0 where
  Blank : MarkedByte → Part
  Comment : List MarkedByte → Part
  Whole : Token → List MarkedByte → Part

abbrev pub tokens_in : List Part → List Token
tokens_in [] = []
tokens_in (Blank m ∷ parts) = tokens_in parts
tokens_in (Comment w ∷ parts) = tokens_in parts
tokens_in (Whole t w ∷ parts) = t ∷ tokens_in parts

-- The front of the text is these parts in turn, and the bytes of the last list are left. Where a comment begins, no token does.
pub data Parts (text : List MarkedByte) : List Part → List MarkedByte → Type 0 where
  begun : Parts text [] text
  a_blank : {parts : List Part} {m : MarkedByte} {rest : List MarkedByte} → Parts text parts (m ∷ rest) →
      is_whitespace_class (class m) ≡ true → Parts text (parts ++ Blank m ∷ []) rest
  a_comment : {parts : List Part} {rest : List MarkedByte} (w : List MarkedByte) → Parts text parts (w ++ rest) → IsComment w rest →
      Parts text (parts ++ Comment w ∷ []) rest
  a_token : {parts : List Part} {rest : List MarkedByte} (w : List MarkedByte) (t : Token) → Parts text parts (w ++ rest) →
      (BeginsComment (w ++ rest) → ⊥) → IsToken t w → NoLonger w rest
      → Parts text (parts ++ Whole t w ∷ []) rest
