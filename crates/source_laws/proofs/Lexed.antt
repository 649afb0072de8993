-- The walk over bytes sees the lexer's strings and comments.
use Rattle.std.proofs.Common.{◌≡◌, ℕ, Bool, true, false, List, [], ◌∷◌, ◌++◌, Result, refl, sym, ap, subst, ◌∙◌, append_assoc, append-nil, inl, inr}
use Rattle.std.specs.Prelude.{◌==◌, ◌&&◌, ◌||◌}
use Rattle.std.proofs.lemmas.Bool.{eqb-true}
use Rattle.std.proofs.lemmas.List.{append_cancel_right}
use Rattle.iasl_messages.specs.declared.place.Place.{Place}
use Rattle.asl_lexer.specs.declared.class.Class.{Class}
use Rattle.asl_lexer.specs.declared.class.Class.TheVariants as c
use Rattle.asl_lexer.specs.declared.class.Radix.{Radix}
use Rattle.asl_lexer.specs.declared.class.Radix.TheVariants.{Octal, Decimal, Hexadecimal}
use Rattle.asl_lexer.specs.declared.token.Token.{Token}
use Rattle.asl_lexer.specs.declared.mode.Fault.{Fault}
use Rattle.asl_lexer.specs.Class.{base_of, takes_equals, doubles, shifts}
use Rattle.asl_lexer.specs.Scan.{MarkedByte, name_kind}
use Rattle.asl_lexer.specs.Cut.{Each, Stops, class, in_name_class, begins_name_class, in_line_class, is_whitespace_class, begins_sign_class, is_caret_class, is_equals_class, in_line, is_caret, digit_in, IsName, IsNumeral, Content, Breaks, Inside, are_two, are_three}
use Rattle.asl_lexer.specs.Cut as g
use Rattle.asl_lexer.proofs.Bits.{both}
use Rattle.source_laws.specs.Parts.{IsToken, IsComment, BeginsComment, Part, Parts}
use Rattle.source_laws.specs.Parts as p
use Rattle.source_laws.specs.Sights.{Sight, InString, InComment, Elsewhere, each, token_sight, part_sights, sights_in}
use Rattle.source_laws.proofs.Bytes.{byte_is, byte_differs, quote_class, slash_class, star_class, break_class, no_digit, not_both}
use Rattle.source_laws.proofs.Strings.{Inner, content_stays}
use Rattle.source_laws.proofs.Longest.{three_are_two}
use Rattle.source_laws.proofs.Walks.{between, string, line, block, star, walk, plain_on, quote_on, slash_alone, no_second, line_on, block_on, comment_on, quoted, protected_on, string_on, string_ends, starred, block_goes, block_ends, AtEnd, at_end, at_break, line_at_end, quoted_at_end, each_on}

abbrev pub bytes : List MarkedByte → List ℕ
bytes [] = []
bytes (m ∷ ms) = m.byte ∷ bytes ms

-- ---- bytes by which nothing begins

abbrev Plain : List MarkedByte → Type 0
Plain [] = Unit {0}
Plain (m ∷ ms) = ((m.byte == 34) ≡ false) × ((m.byte == 47) ≡ false) × Plain ms

plain_more : (xs ys : List MarkedByte) → Plain xs → Plain ys → Plain (xs ++ ys)
plain_more [] ys h k = k
plain_more (x ∷ xs) ys h k = (h.0, h.1, plain_more xs ys h.2 k)

plain_walk : (w rest : List MarkedByte) → Plain w → walk between (bytes (w ++ rest)) ≡ each Elsewhere w ++ walk between (bytes rest)
plain_walk [] rest h = refl
plain_walk (m ∷ w) rest h = plain_on m.byte (bytes (w ++ rest)) h.0 h.1 ∙ ap (λ l. Elsewhere ∷ l) (plain_walk w rest h.2)

-- a byte whose class passes a test that a quote and a slash do not pass
tested : (test : Class → Bool) (m : MarkedByte) → test (class m) ≡ true → test c.Quote ≡ false → test c.Slash ≡ false → Plain (m ∷ [])
tested test m h q s = (
  byte_differs 34 c.Quote m.byte quote_class (λ e. (let wrong : true ≡ false = sym h ∙ ap test e ∙ q in cc)),
  byte_differs 47 c.Slash m.byte slash_class (λ e. (let wrong : true ≡ false = sym h ∙ ap test e ∙ s in cc)),
  tt,
)

of_class : (k : Class) (m : MarkedByte) → class m ≡ k → (c.Quote ≡ k → ⊥) → (c.Slash ≡ k → ⊥) → Plain (m ∷ [])
of_class k m is q s = (byte_differs 34 c.Quote m.byte quote_class (λ e. q (sym e ∙ is)), byte_differs 47 c.Slash m.byte slash_class (λ e. s (sym e ∙ is)), tt)

digit_plain : (radix : Radix) (m : MarkedByte) → digit_in (base_of radix) m ≡ true → Plain (m ∷ [])
digit_plain Octal m e = (no_digit 34 8 m.byte refl e, no_digit 47 8 m.byte refl e, tt)
digit_plain Decimal m e = (no_digit 34 10 m.byte refl e, no_digit 47 10 m.byte refl e, tt)
digit_plain Hexadecimal m e = (no_digit 34 16 m.byte refl e, no_digit 47 16 m.byte refl e, tt)

carets_plain : (cs : List MarkedByte) → Each is_caret cs → Plain cs
carets_plain [] h = tt
carets_plain (m ∷ cs) h = plain_more (m ∷ []) cs (tested is_caret_class m h.0 refl refl) (carets_plain cs h.1)

name_plain : {path : Bool} {from : Place} {text : List ℕ} {w : List MarkedByte} → IsName path from text w → Plain w
name_plain (g.IsName.word {m = m} is) = tested begins_name_class m is refl refl
name_plain (g.IsName.rooted {r = r} {m = m} root is) = plain_more (r ∷ []) (m ∷ []) (of_class c.Backslash r root (λ e. cc) (λ e. cc)) (tested begins_name_class m is refl refl)
name_plain (g.IsName.raised before last cs m each_is at is) = plain_more cs (m ∷ []) (carets_plain cs each_is) (tested begins_name_class m is refl refl)
name_plain (g.IsName.more {w = w} m front is) = plain_more w (m ∷ []) (name_plain front) (tested in_name_class m is refl refl)
name_plain (g.IsName.dotted {w = w} d m front dot is) =
    plain_more w (d ∷ m ∷ []) (name_plain front) (plain_more (d ∷ []) (m ∷ []) (of_class c.Dot d dot (λ e. cc) (λ e. cc)) (tested begins_name_class m is refl refl))

numeral_plain : {radix : Radix} {from : Place} {value : ℕ} {w : List MarkedByte} → IsNumeral radix from value w → Plain w
numeral_plain (g.IsNumeral.decimal {m = m} is) = of_class c.Digit m is (λ e. cc) (λ e. cc)
numeral_plain (g.IsNumeral.octal {z = z} {m = m} zero is) = plain_more (z ∷ []) (m ∷ []) (of_class c.Zero z zero (λ e. cc) (λ e. cc)) (digit_plain Octal m is)
numeral_plain (g.IsNumeral.hexadecimal {z = z} {x = x} {m = m} zero is_x is) =
    plain_more (z ∷ []) (x ∷ m ∷ []) (of_class c.Zero z zero (λ e. cc) (λ e. cc)) (not_both 34 120 x.byte refl is_x, not_both 47 120 x.byte refl is_x, digit_plain Hexadecimal m is)
numeral_plain (g.IsNumeral.more {radix = radix} {w = w} m front is) = plain_more w (m ∷ []) (numeral_plain front) (digit_plain radix m is)

second_plain : (m n : MarkedByte) → Plain (m ∷ []) → are_two m.byte n.byte ≡ true → Plain (n ∷ [])
second_plain m n plain h = by (n.byte == 61) (n.byte == m.byte) refl refl h
  where
    by : (s t : Bool) → (n.byte == 61) ≡ s → (n.byte == m.byte) ≡ t → ((s && takes_equals m.byte) || (t && doubles m.byte)) ≡ true → Plain (n ∷ [])
    by true t e f k = (not_both 34 61 n.byte refl e, not_both 47 61 n.byte refl e, tt)
    by false true e f k = let same : n.byte ≡ m.byte = eqb-true n.byte m.byte f in (ap (λ b. b == 34) same ∙ plain.0, ap (λ b. b == 47) same ∙ plain.1, tt)
    by false false e f k = absurd cc

third_plain : (b n : ℕ) (o : MarkedByte) → are_three b n o.byte ≡ true → Plain (o ∷ [])
third_plain b n o h = let e = both (o.byte == 61) (n == b && shifts b) h in (not_both 34 61 o.byte refl e.0, not_both 47 61 o.byte refl e.0, tt)

-- ---- strings

inner_walk : (protected : Bool) (w rest : List MarkedByte) → Inner protected w → walk (quoted protected) (bytes (w ++ rest)) ≡ each InString w ++ walk string (bytes rest)
inner_walk protected [] rest h = ap (λ t. walk (quoted t) (bytes rest)) h
inner_walk true (m ∷ w) rest h = protected_on m.byte (bytes (w ++ rest)) h.0 ∙ ap (λ l. InString ∷ l) (inner_walk false w rest h.1)
inner_walk false (m ∷ w) rest h = string_on m.byte (bytes (w ++ rest)) h.0 h.1 ∙ ap (λ l. InString ∷ l) (inner_walk (m.byte == 92) w rest h.2)

string_walk : (q e : MarkedByte) (w rest : List MarkedByte) → class q ≡ c.Quote → Inner false w → class e ≡ c.Quote → walk between (bytes ((q ∷ w ++ e ∷ []) ++ rest)) ≡ each InString (q ∷ w ++ e ∷ []) ++ walk between (bytes rest)
string_walk q e w rest opens inner closes =
    let quote : (e.byte == 34) ≡ true = byte_is c.Quote e.byte closes in
    quote_on q.byte (bytes ((w ++ e ∷ []) ++ rest)) (byte_is c.Quote q.byte opens)
    ∙ ap (λ l. InString ∷ walk string (bytes l)) (append_assoc w (e ∷ []) rest)
    ∙ ap (λ l. InString ∷ l) (inner_walk false w (e ∷ rest) inner ∙ ap (λ l. each InString w ++ l) (string_ends e.byte (bytes rest) (not_both 10 34 e.byte refl quote) quote)
    ∙ sym (append_assoc (each InString w) (InString ∷ []) (walk between (bytes rest))) ∙ ap (λ l. l ++ walk between (bytes rest)) (sym (each_on InString w (e ∷ []))))

-- ---- comments

line_walk : (w rest : List MarkedByte) → Each in_line w → walk line (bytes (w ++ rest)) ≡ each InComment w ++ walk line (bytes rest)
line_walk [] rest h = refl
line_walk (m ∷ w) rest h =
    comment_on m.byte (bytes (w ++ rest)) (byte_differs 10 c.Break m.byte break_class (λ e. (let wrong : true ≡ false = sym h.0 ∙ ap in_line_class e in cc))) ∙ ap (λ l. InComment ∷ l) (line_walk w rest h.1)

break_is : (k : Class) → in_line_class k ≡ false → k ≡ c.Break
break_is c.Break h = refl
break_is _ h = absurd cc

pub stops_at_end : (rest : List MarkedByte) → Stops in_line rest → AtEnd (bytes rest)
stops_at_end [] h = at_end
stops_at_end (m ∷ rest) h = subst (λ b. AtEnd (b ∷ bytes rest)) (sym (eqb-true m.byte 10 (byte_is c.Break m.byte (break_is (class m) h)))) (at_break (bytes rest))

record InsideWalk (s : Bool) (all rest : List MarkedByte) : Type 0 where
  front : List MarkedByte
  is : all ≡ front ++ rest
  walks : walk block (bytes all) ≡ each InComment front ++ walk (starred s) (bytes rest)

inside_on : (s t : Bool) (all rest : List MarkedByte) (m : MarkedByte) → InsideWalk s all (m ∷ rest) → (s ≡ true → (m.byte == 47) ≡ false) → (m.byte == 42) ≡ t → InsideWalk t all rest
inside_on s t all rest m i no_close e = record {
  front = i.front ++ m ∷ [];
  is = i.is ∙ sym (append_assoc i.front (m ∷ []) rest);
  walks =
      i.walks ∙ ap (λ l. each InComment i.front ++ l) (block_goes s m.byte (bytes rest) no_close ∙ ap (λ u. InComment ∷ walk (starred u) (bytes rest)) e)
      ∙ sym (append_assoc (each InComment i.front) (InComment ∷ []) (walk (starred t) (bytes rest))) ∙ ap (λ l. l ++ walk (starred t) (bytes rest)) (sym (each_on InComment i.front (m ∷ [])));
}

inside_walk : {s : Bool} {all rest : List MarkedByte} → Inside s all rest → InsideWalk s all rest
inside_walk g.Inside.opened = record { front = []; is = refl; walks = refl }
inside_walk {all = all} {rest = rest} (g.Inside.a_star {s = s} {m = m} inside is) =
    let byte : (m.byte == 42) ≡ true = byte_is c.Star m.byte is in
    inside_on s true all rest m (inside_walk inside) (λ e. not_both 47 42 m.byte refl byte) byte
inside_walk {all = all} {rest = rest} (g.Inside.no_star {m = m} inside other) = inside_on false false all rest m (inside_walk inside) (λ e. absurd cc) (byte_differs 42 c.Star m.byte star_class other)
inside_walk {all = all} {rest = rest} (g.Inside.behind_star {m = m} inside other no_slash) =
    inside_on true false all rest m (inside_walk inside) (λ e. byte_differs 47 c.Slash m.byte slash_class no_slash) (byte_differs 42 c.Star m.byte star_class other)

opens_block : (a b : MarkedByte) (rest : List MarkedByte) → class a ≡ c.Slash → class b ≡ c.Star → walk between (bytes (a ∷ b ∷ rest)) ≡ InComment ∷ InComment ∷ walk block (bytes rest)
opens_block a b rest sa sb =
    let slash : (a.byte == 47) ≡ true = byte_is c.Slash a.byte sa in
    let second : (b.byte == 42) ≡ true = byte_is c.Star b.byte sb in
    block_on a.byte b.byte (bytes rest) (not_both 34 47 a.byte refl slash) slash (not_both 47 42 b.byte refl second) second

comment_walk : {w rest : List MarkedByte} → IsComment w rest → walk between (bytes (w ++ rest)) ≡ each InComment w ++ walk between (bytes rest)
comment_walk (p.a_line {a = a} {b = b} {w = w} {rest = rest} sa sb each_is stops) =
    let slash : (a.byte == 47) ≡ true = byte_is c.Slash a.byte sa in
    let second : (b.byte == 47) ≡ true = byte_is c.Slash b.byte sb in
    line_on a.byte b.byte (bytes (w ++ rest)) (not_both 34 47 a.byte refl slash) slash second
    ∙ ap (λ l. InComment ∷ l) (comment_on b.byte (bytes (w ++ rest)) (not_both 10 47 b.byte refl second))
    ∙ ap (λ l. InComment ∷ InComment ∷ l) (line_walk w rest each_is ∙ ap (λ l. each InComment w ++ l) (line_at_end (stops_at_end rest stops)))
comment_walk (p.a_block {a = a} {b = b} {e = e} {rest = rest} w sa sb inside ends) =
    let i = inside_walk inside in
    let same : w ≡ i.front = append_cancel_right w i.front (e ∷ rest) i.is in
    opens_block a b ((w ++ e ∷ []) ++ rest) sa sb ∙ ap (λ l. InComment ∷ InComment ∷ walk block (bytes l)) (append_assoc w (e ∷ []) rest)
    ∙ ap (λ l. InComment ∷ InComment ∷ l) (i.walks ∙ ap (λ v. each InComment v ++ walk star (bytes (e ∷ rest))) (sym same)
    ∙ ap (λ l. each InComment w ++ l) (block_ends e.byte (bytes rest) (byte_is c.Slash e.byte ends))
    ∙ sym (append_assoc (each InComment w) (InComment ∷ []) (walk between (bytes rest))) ∙ ap (λ l. l ++ walk between (bytes rest)) (sym (each_on InComment w (e ∷ []))))

-- ---- tokens

name_sight : (path : Bool) → token_sight (name_kind path) ≡ Elsewhere
name_sight true = refl
name_sight false = refl

-- a slash that is a token
slash_walk : (m : MarkedByte) (rest : List MarkedByte) → class m ≡ c.Slash → (BeginsComment (m ∷ rest) → ⊥) → walk between (bytes (m ∷ rest)) ≡ Elsewhere ∷ walk between (bytes rest)
slash_walk m [] is none =
    let slash : (m.byte == 47) ≡ true = byte_is c.Slash m.byte is in
    slash_alone m.byte [] (not_both 34 47 m.byte refl slash) slash refl refl
slash_walk m (n ∷ rest) is none =
    let slash : (m.byte == 47) ≡ true = byte_is c.Slash m.byte is in
    let next = no_second n.byte (bytes rest) (byte_differs 47 c.Slash n.byte slash_class (λ e. none (is, inl e))) (byte_differs 42 c.Star n.byte star_class (λ e. none (is, inr e))) in
    slash_alone m.byte (n.byte ∷ bytes rest) (not_both 34 47 m.byte refl slash) slash next.0 next.1

token_walk : {t : Token} {w : List MarkedByte} → IsToken t w → (rest : List MarkedByte) → (BeginsComment (w ++ rest) → ⊥) → walk between (bytes (w ++ rest)) ≡ each (token_sight t.kind) w ++ walk between (bytes rest)
token_walk (p.a_name {path = path} {w = w} is) rest none = plain_walk w rest (name_plain is) ∙ ap (λ s. each s w ++ walk between (bytes rest)) (sym (name_sight path))
token_walk (p.a_root {m = m} is) rest none = plain_walk (m ∷ []) rest (of_class c.Backslash m is (λ e. cc) (λ e. cc))
token_walk (p.a_zero {m = m} is) rest none = plain_walk (m ∷ []) rest (of_class c.Zero m is (λ e. cc) (λ e. cc))
token_walk (p.a_number {w = w} is fits) rest none = plain_walk w rest (numeral_plain is)
token_walk (p.a_string {q = q} {e = e} w opens content closes) rest none =
    let s = content_stays content in
    string_walk q e w rest opens (subst (Inner false) (sym (append_cancel_right w s.front (e ∷ []) s.is)) s.inner) closes
token_walk (p.a_caret {m = m} is) rest none = plain_walk (m ∷ []) rest (of_class c.Caret m is (λ e. cc) (λ e. cc))
token_walk (p.caret_equals {m = m} {e = e} is equals) rest none = plain_walk (m ∷ e ∷ []) rest (plain_more (m ∷ []) (e ∷ []) (of_class c.Caret m is (λ f. cc) (λ f. cc)) (of_class c.Equals e equals (λ f. cc) (λ f. cc)))
token_walk (p.a_slash {m = m} is) rest none = slash_walk m rest is none
token_walk (p.slash_equals {m = m} {e = e} is equals) rest none = slash_walk m (e ∷ rest) is none ∙ ap (λ l. Elsewhere ∷ l) (plain_walk (e ∷ []) rest (of_class c.Equals e equals (λ f. cc) (λ f. cc)))
token_walk (p.one_sign {m = m} is) rest none = plain_walk (m ∷ []) rest (tested begins_sign_class m is refl refl)
token_walk (p.two_signs {m = m} {n = n} is both_are) rest none =
    let first = tested begins_sign_class m is refl refl in
    plain_walk (m ∷ n ∷ []) rest (plain_more (m ∷ []) (n ∷ []) first (second_plain m n first both_are))
token_walk (p.three_signs {m = m} {n = n} {o = o} is all_are) rest none =
    let first = tested begins_sign_class m is refl refl in
    plain_walk (m ∷ n ∷ o ∷ []) rest (plain_more (m ∷ []) (n ∷ o ∷ []) first (plain_more (n ∷ []) (o ∷ []) (second_plain m n first (three_are_two m.byte n.byte o.byte all_are)) (third_plain m.byte n.byte o all_are)))

-- ---- the text

with_part : (parts : List Part) (part : Part) (more : List Sight) → sights_in (parts ++ part ∷ []) ++ more ≡ sights_in parts ++ (part_sights part ++ more)
with_part [] part more = ap (λ l. l ++ more) (append-nil (part_sights part))
with_part (q ∷ parts) part more =
    append_assoc (part_sights q) (sights_in (parts ++ part ∷ [])) more ∙ ap (λ l. part_sights q ++ l) (with_part parts part more)
    ∙ sym (append_assoc (part_sights q) (sights_in parts) (part_sights part ++ more))

blank_walk : (m : MarkedByte) (rest : List MarkedByte) → is_whitespace_class (class m) ≡ true → walk between (bytes (m ∷ rest)) ≡ Elsewhere ∷ walk between (bytes rest)
blank_walk m rest blank = plain_walk (m ∷ []) rest (tested is_whitespace_class m blank refl refl)

pub lexed : {text : List MarkedByte} {parts : List Part} {rest : List MarkedByte} → Parts text parts rest → walk between (bytes text) ≡ sights_in parts ++ walk between (bytes rest)
lexed p.begun = refl
lexed (p.a_blank {parts = parts} {m = m} {rest = rest} front blank) =
    lexed front ∙ ap (λ l. sights_in parts ++ l) (blank_walk m rest blank) ∙ sym (with_part parts (p.Blank m) (walk between (bytes rest)))
lexed (p.a_comment {parts = parts} {rest = rest} w front is) =
    lexed front ∙ ap (λ l. sights_in parts ++ l) (comment_walk is) ∙ sym (with_part parts (p.Comment w) (walk between (bytes rest)))
lexed (p.a_token {parts = parts} {rest = rest} w t front none is longest) =
    lexed front ∙ ap (λ l. sights_in parts ++ l) (token_walk is rest none) ∙ sym (with_part parts (p.Whole t w) (walk between (bytes rest)))

-- a block comment that is left open
pub open_comment : (a b : MarkedByte) (s : Bool) (inner : List MarkedByte) → class a ≡ c.Slash → class b ≡ c.Star → Inside s inner [] → walk between (bytes (a ∷ b ∷ inner)) ≡ each InComment (a ∷ b ∷ inner)
open_comment a b s inner sa sb inside =
    let i = inside_walk inside in
    opens_block a b inner sa sb ∙ ap (λ l. InComment ∷ InComment ∷ l) (i.walks ∙ append-nil (each InComment i.front) ∙ ap (each InComment) (sym (i.is ∙ append-nil i.front)))

-- a string that is left open: all of its line from the quote on is one
in_line_by : (m : MarkedByte) (k : Class) → class m ≡ k → (m.byte == 10) ≡ false → in_line_class k ≡ true
in_line_by m c.Break is e = let wrong : true ≡ false = sym (byte_is c.Break m.byte is) ∙ e in cc
in_line_by m _ is e = refl

inner_line : (protected : Bool) (w : List MarkedByte) → Inner protected w → Each in_line w
inner_line protected [] h = tt
inner_line true (m ∷ w) h = (in_line_by m (class m) refl h.0, inner_line false w h.1)
inner_line false (m ∷ w) h = (in_line_by m (class m) refl h.0, inner_line (m.byte == 92) w h.2)

each_with : (w : List MarkedByte) (m : MarkedByte) → Each in_line w → in_line m ≡ true → Each in_line (w ++ m ∷ [])
each_with [] m h e = (e, tt)
each_with (x ∷ w) m h e = (h.0, each_with w m h.1 e)

pub record OpenString (all : List MarkedByte) : Type 0 where
  pub front : List MarkedByte
  pub behind : List MarkedByte
  pub is : all ≡ front ++ behind
  pub line : Each in_line front
  pub ends : Stops in_line behind
  pub walks : walk between (bytes all) ≡ each InString front ++ walk between (bytes behind)

class_in_line : (k : Class) (m : MarkedByte) → class m ≡ k → in_line_class k ≡ true → in_line m ≡ true
class_in_line k m is e = ap in_line_class is ∙ e

break_stops : (m : MarkedByte) → class m ≡ c.Break → in_line m ≡ false
break_stops m is = ap in_line_class is

break_ends : (m : MarkedByte) (rest : List MarkedByte) → class m ≡ c.Break → AtEnd (bytes (m ∷ rest))
break_ends m rest is = stops_at_end (m ∷ rest) (break_stops m is)

at_the_end : (q : MarkedByte) (w rest : List MarkedByte) → class q ≡ c.Quote → Inner false w → Stops in_line rest → OpenString (q ∷ w ++ rest)
at_the_end q w rest opens inner stops = record {
  front = q ∷ w;
  behind = rest;
  is = refl;
  line = (class_in_line c.Quote q opens refl, inner_line false w inner);
  ends = stops;
  walks = quote_on q.byte (bytes (w ++ rest)) (byte_is c.Quote q.byte opens) ∙ ap (λ l. InString ∷ l) (inner_walk false w rest inner ∙ ap (λ l. each InString w ++ l) (quoted_at_end false (stops_at_end rest stops)));
}

behind_escape : (q s : MarkedByte) (w rest : List MarkedByte) → class q ≡ c.Quote → Inner false w → class s ≡ c.Backslash → Stops in_line rest → OpenString (q ∷ w ++ s ∷ rest)
behind_escape q s w rest opens inner slash stops =
    let byte : (s.byte == 92) ≡ true = byte_is c.Backslash s.byte slash in
    record {
      front = q ∷ w ++ s ∷ [];
      behind = rest;
      is = ap (λ l. q ∷ l) (sym (append_assoc w (s ∷ []) rest));
      line = (class_in_line c.Quote q opens refl, each_with w s (inner_line false w inner) (class_in_line c.Backslash s slash refl));
      ends = stops;
      walks =
          quote_on q.byte (bytes (w ++ s ∷ rest)) (byte_is c.Quote q.byte opens)
          ∙ ap (λ l. InString ∷ l) (inner_walk false w (s ∷ rest) inner
          ∙ ap (λ l. each InString w ++ l) (string_on s.byte (bytes rest) (not_both 10 92 s.byte refl byte) (not_both 34 92 s.byte refl byte) ∙ ap (λ l. InString ∷ l) (quoted_at_end (s.byte == 92) (stops_at_end rest stops)))
          ∙ sym (append_assoc (each InString w) (InString ∷ []) (walk between (bytes rest))) ∙ ap (λ l. l ++ walk between (bytes rest)) (sym (each_on InString w (s ∷ []))));
    }

string_by : (q : MarkedByte) (w rest : List MarkedByte) → class q ≡ c.Quote → Inner false w → Breaks rest → OpenString (q ∷ w ++ rest)
string_by q w [] opens inner breaks = at_the_end q w [] opens inner tt
string_by q w (m ∷ []) opens inner breaks = by breaks refl
  where
    by : {all : List MarkedByte} → Breaks all → all ≡ m ∷ [] → OpenString (q ∷ w ++ m ∷ [])
    by g.Breaks.at_end e = absurd cc
    by (g.Breaks.at_line {m = n} {rest = rest} is) e = let same : n ≡ m = cc in at_the_end q w (m ∷ []) opens inner (break_stops m (ap class (sym same) ∙ is))
    by (g.Breaks.at_escape {s = s} is) e = let same : s ≡ m = cc in behind_escape q m w [] opens inner (ap class (sym same) ∙ is) tt
    by (g.Breaks.at_escaped_line a b) e = absurd cc
string_by q w (m ∷ n ∷ rest) opens inner breaks = by breaks refl
  where
    by : {all : List MarkedByte} → Breaks all → all ≡ m ∷ n ∷ rest → OpenString (q ∷ w ++ m ∷ n ∷ rest)
    by g.Breaks.at_end e = absurd cc
    by (g.Breaks.at_line {m = k} is) e = let same : k ≡ m = cc in at_the_end q w (m ∷ n ∷ rest) opens inner (break_stops m (ap class (sym same) ∙ is))
    by (g.Breaks.at_escape is) e = absurd cc
    by (g.Breaks.at_escaped_line {s = s} {m = k} is ends) e =
        let same : s ≡ m = cc in
        let other : k ≡ n = cc in
        behind_escape q m w (n ∷ rest) opens inner (ap class (sym same) ∙ is) (break_stops n (ap class (sym other) ∙ ends))

pub open_string : {string : Result (List ℕ) Fault} {inner rest : List MarkedByte} (q : MarkedByte) → class q ≡ c.Quote → Content string inner rest → Breaks rest → OpenString (q ∷ inner)
open_string {rest = rest} q opens content breaks =
    let s = content_stays content in
    subst (λ l. OpenString (q ∷ l)) (sym s.is) (string_by q s.front rest opens s.inner breaks)
