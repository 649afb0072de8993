-- Tokens that are cut from short lines have short texts.
use Rattle.std.proofs.Common.{◌≡◌, ℕ, suc, ◌+◌, ◌<◌, ◌≤◌, ◌^◌, Bool, true, false, List, [], ◌∷◌, ◌++◌, length, Result, Ok, Err, refl, sym, ap, ◌∙◌, arith, length-append}
use Rattle.std.specs.Prelude.{◌==◌, if◌then◌else◌}
use Rattle.std.specs.Char.{is_digit}
use Rattle.std.specs.List.{All}
use Rattle.std.proofs.lemmas.Bool.{eqb-true}
use Rattle.std.proofs.lemmas.List.Elements.{All-push}
use Rattle.iasl_messages.specs.declared.place.Place.{Place}
use Rattle.iasl_messages.specs.declared.place.Line.{Line}
use Rattle.asl_lexer.specs.declared.class.Class.{Class}
use Rattle.asl_lexer.specs.declared.class.Class.TheVariants as c
use Rattle.asl_lexer.specs.declared.class.Radix.{Radix}
use Rattle.asl_lexer.specs.declared.class.Radix.TheVariants.{Octal, Decimal, Hexadecimal}
use Rattle.asl_lexer.specs.declared.token.Token.{Token}
use Rattle.asl_lexer.specs.declared.token.TokenKind.{TokenKind}
use Rattle.asl_lexer.specs.declared.token.TokenKind.TheVariants as k
use Rattle.asl_lexer.specs.declared.mode.Fault.{Fault}
use Rattle.asl_lexer.specs.Class.{class_of, base_of}
use Rattle.asl_lexer.specs.Scan.{MarkedByte, with, name_kind, caret_text}
use Rattle.asl_lexer.specs.Marks.{marks_from, following, joined, tokens_of}
use Rattle.asl_lexer.specs.Cut.{Each, class, in_name, begins_name, in_line, in_text, is_caret, digit_in, in_name_class, begins_name_class, in_line_class, in_text_class, is_caret_class, IsName, IsCode, Content, Inside, Cut, places}
use Rattle.asl_lexer.specs.Cut as g
use Rattle.asl_lexer.proofs.Told.{tokens_are_cut}
use Rattle.program_shapes.specs.Kept.{HaveShortTexts}

-- ---- how many bytes stand before the line's end

abbrev row : List MarkedByte → ℕ
row [] = 0
row (m ∷ ms) = if m.byte == 10 then 0 else suc (row ms)

-- from each place on there are fewer than 2^32
abbrev AreShort : List MarkedByte → Type 0
AreShort [] = Unit {0}
AreShort (m ∷ ms) = (row (m ∷ ms) < 2 ^ 32) × AreShort ms

bounded : (ms : List MarkedByte) → AreShort ms → row ms < 2 ^ 32
bounded [] h = omega arith
bounded (m ∷ ms) h = h.0

behind : (w rest : List MarkedByte) → AreShort (w ++ rest) → AreShort rest
behind [] rest h = h
behind (m ∷ ms) rest h = behind ms rest h.1

-- none of these bytes ends a line
abbrev InRow : List MarkedByte → Type 0
InRow [] = Unit {0}
InRow (m ∷ ms) = ((m.byte == 10) ≡ false) × InRow ms

join : (w rest : List MarkedByte) → InRow w → InRow rest → InRow (w ++ rest)
join [] rest a b = b
join (m ∷ ms) rest a b = (a.0, join ms rest a.1 b)

row_of : (w rest : List MarkedByte) → InRow w → row (w ++ rest) ≡ length w + row rest
row_of [] rest h = omega arith
row_of (m ∷ ms) rest h = ap (λ t. if t then 0 else suc (row (ms ++ rest))) h.0 ∙ (let e : row (ms ++ rest) ≡ length ms + row rest = row_of ms rest h.1 in omega (arith, e))

-- ---- what is no line's end

apart : (b : ℕ) (f : ℕ → Bool) → f 10 ≡ false → f b ≡ true → (b == 10) ≡ false
apart b f refused taken = by (b == 10) refl
  where
    by : (t : Bool) → (b == 10) ≡ t → t ≡ false
    by false e = refl
    by true e = sym taken ∙ ap f (eqb-true b 10 e) ∙ refused

name_apart : (m : MarkedByte) → in_name m ≡ true → (m.byte == 10) ≡ false
unfolding class_of
name_apart m h = apart m.byte (λ b. in_name_class (class_of b)) refl h

begins_apart : (m : MarkedByte) → begins_name m ≡ true → (m.byte == 10) ≡ false
unfolding class_of
begins_apart m h = apart m.byte (λ b. begins_name_class (class_of b)) refl h

line_apart : (m : MarkedByte) → in_line m ≡ true → (m.byte == 10) ≡ false
unfolding class_of
line_apart m h = apart m.byte (λ b. in_line_class (class_of b)) refl h

text_apart : (m : MarkedByte) → in_text m ≡ true → (m.byte == 10) ≡ false
unfolding class_of
text_apart m h = apart m.byte (λ b. in_text_class (class_of b)) refl h

caret_apart : (m : MarkedByte) → is_caret m ≡ true → (m.byte == 10) ≡ false
unfolding class_of
caret_apart m h = apart m.byte (λ b. is_caret_class (class_of b)) refl h

class_apart : (m : MarkedByte) (k : Class) → class m ≡ k → in_line_class k ≡ true → (m.byte == 10) ≡ false
class_apart m k e h = line_apart m (ap in_line_class e ∙ h)

digit_apart : (radix : Radix) (m : MarkedByte) → digit_in (base_of radix) m ≡ true → (m.byte == 10) ≡ false
digit_apart Octal m h = apart m.byte (λ b. is_digit b 8) refl h
digit_apart Decimal m h = apart m.byte (λ b. is_digit b 10) refl h
digit_apart Hexadecimal m h = apart m.byte (λ b. is_digit b 16) refl h

-- ---- words and paths

carets_row : (cs : List MarkedByte) → Each is_caret cs → InRow cs
carets_row [] h = tt
carets_row (m ∷ ms) h = (caret_apart m h.0, carets_row ms h.1)

places_length : (cs : List MarkedByte) → length (places cs) ≡ length cs
places_length [] = refl
places_length (m ∷ ms) = ap suc (places_length ms)

carets_length : (ps : List Place) → length (caret_text ps) ≡ length ps
carets_length [] = refl
carets_length (p ∷ ps) = ap suc (carets_length ps)

name_row : {path : Bool} {from : Place} {text : List ℕ} {w : List MarkedByte} → IsName path from text w → InRow w
name_row (g.IsName.word {m = b} is) = (begins_apart b is, tt)
name_row (g.IsName.rooted {r = r} {m = b} is begins) = (class_apart r c.Backslash is refl, (begins_apart b begins, tt))
name_row (g.IsName.raised before last cs b each at begins) = join cs (b ∷ []) (carets_row cs each) (begins_apart b begins, tt)
name_row (g.IsName.more {w = w} b name is) = join w (b ∷ []) (name_row name) (name_apart b is, tt)
name_row (g.IsName.dotted {w = w} d b name dot begins) = join w (d ∷ b ∷ []) (name_row name) (class_apart d c.Dot dot refl, (begins_apart b begins, tt))

name_length : {path : Bool} {from : Place} {text : List ℕ} {w : List MarkedByte} → IsName path from text w → length text ≤ length w
name_length (g.IsName.word is) = omega arith
name_length (g.IsName.rooted is begins) = omega arith
name_length (g.IsName.raised before last cs b each at begins) =
    let same : length (places cs) ≡ length (before ++ last ∷ []) = ap length at in
    omega (arith, same, places_length cs, carets_length before, length-append before (last ∷ []), length-append (caret_text before) (94 ∷ g.upper b ∷ []), length-append cs (b ∷ []))
name_length (g.IsName.more {text = text} {w = w} b name is) = let le = name_length name in omega (arith, le, length-append text (g.upper b ∷ []), length-append w (b ∷ []))
name_length (g.IsName.dotted {text = text} {w = w} d b name dot begins) =
    let le = name_length name in omega (arith, le, length-append text (46 ∷ []), length-append (text ++ 46 ∷ []) (g.upper b ∷ []), length-append w (d ∷ b ∷ []))

-- ---- strings

code_row : {radix : Radix} {value left : ℕ} {w : List MarkedByte} → IsCode radix value left w → InRow w
code_row (g.IsCode.octal {m = b} line none is) = (line_apart b line, tt)
code_row (g.IsCode.hexadecimal {x = x} {m = b} line none no_digit is_x is) = (line_apart x line, (digit_apart Hexadecimal b is, tt))
code_row (g.IsCode.more {radix = radix} {w = w} b code some is) = join w (b ∷ []) (code_row code) (digit_apart radix b is, tt)

-- so far a string has no more bytes than stand in the line
abbrev IsWithin : Result (List ℕ) Fault → ℕ → ℕ → Type 0
IsWithin (Ok string) rest whole = length string + rest ≤ whole
IsWithin (Err fault) rest whole = Unit {0}

content_within : {s : Result (List ℕ) Fault} {bytes rest : List MarkedByte} → Content s bytes rest → IsWithin s (row rest) (row bytes)
content_within g.no_bytes = omega arith
content_within (g.plain {text = text} {m = b} {rest = rest} content is plain) =
    let le = content_within content in
    let e = row_of (b ∷ []) rest (text_apart b is, tt) in
    omega (arith, le, e, length-append text (b.byte ∷ []))
content_within (g.bad_byte content is plain) = tt
content_within (g.escape {text = text} {x = x} {s = s} {m = b} {rest = rest} content slash line is) =
    let le = content_within content in
    let e = row_of (s ∷ b ∷ []) rest (class_apart s c.Backslash slash refl, (line_apart b line, tt)) in
    omega (arith, le, e, length-append text (x ∷ []))
content_within (g.code {text = text} {value = value} {s = s} {rest = rest} w content slash code ends plain) =
    let le = content_within content in
    let e = row_of (s ∷ w) rest (class_apart s c.Backslash slash refl, code_row code) in
    omega (arith, le, e, length-append text (value ∷ []))
content_within (g.bad_code w content slash code ends plain) = tt
content_within (g.no_code content slash line none no_digit is_x ends) = tt
content_within (g.no_escape content slash line none no_digit no_x) = tt
content_within (g.passed content is) = tt
content_within (g.passed_escape content slash line) = tt

-- ---- what is left behind tokens

inside_short : {s : Bool} {bytes rest : List MarkedByte} → Inside s bytes rest → AreShort bytes → AreShort rest
inside_short g.opened h = h
inside_short (g.a_star {m = b} {rest = rest} inside is) h = behind (b ∷ []) rest (inside_short inside h)
inside_short (g.no_star {m = b} {rest = rest} inside other) h = behind (b ∷ []) rest (inside_short inside h)
inside_short (g.behind_star {m = b} {rest = rest} inside other no_slash) h = behind (b ∷ []) rest (inside_short inside h)

content_short : {s : Result (List ℕ) Fault} {bytes rest : List MarkedByte} → Content s bytes rest → AreShort bytes → AreShort rest
content_short g.no_bytes h = h
content_short (g.plain {m = b} {rest = rest} content is plain) h = behind (b ∷ []) rest (content_short content h)
content_short (g.bad_byte {m = b} {rest = rest} content is plain) h = behind (b ∷ []) rest (content_short content h)
content_short (g.escape {s = s} {m = b} {rest = rest} content slash line is) h = behind (s ∷ b ∷ []) rest (content_short content h)
content_short (g.code {s = s} {rest = rest} w content slash code ends plain) h = behind w rest (behind (s ∷ []) (w ++ rest) (content_short content h))
content_short (g.bad_code {s = s} {rest = rest} w content slash code ends plain) h = behind w rest (behind (s ∷ []) (w ++ rest) (content_short content h))
content_short (g.no_code {s = s} {x = x} {rest = rest} content slash line none no_digit is_x ends) h = behind (s ∷ x ∷ []) rest (content_short content h)
content_short (g.no_escape {s = s} {m = b} {rest = rest} content slash line none no_digit no_x) h = behind (s ∷ b ∷ []) rest (content_short content h)
content_short (g.passed {m = b} {rest = rest} content is) h = behind (b ∷ []) rest (content_short content h)
content_short (g.passed_escape {s = s} {m = b} {rest = rest} content slash line) h = behind (s ∷ b ∷ []) rest (content_short content h)

cut_short : (text : List MarkedByte) {done : List Token} {rest : List MarkedByte} → AreShort text → Cut text done rest → AreShort rest
cut_short text h g.begun = h
cut_short text h (g.a_blank {m = b} {rest = rest} cut is) = behind (b ∷ []) rest (cut_short text h cut)
cut_short text h (g.a_line {a = a} {b = b} {rest = rest} w cut one two each s) = behind w rest (behind (a ∷ b ∷ []) (w ++ rest) (cut_short text h cut))
cut_short text h (g.a_block {a = a} {b = b} {e = e} {bytes = bytes} {rest = rest} cut one two inside slash) = behind (e ∷ []) rest (inside_short inside (behind (a ∷ b ∷ []) bytes (cut_short text h cut)))
cut_short text h (g.a_name {rest = rest} w cut is ends) = behind w rest (cut_short text h cut)
cut_short text h (g.a_root {m = b} {rest = rest} cut is s) = behind (b ∷ []) rest (cut_short text h cut)
cut_short text h (g.a_zero {m = b} {rest = rest} cut is no_digit no_x none) = behind (b ∷ []) rest (cut_short text h cut)
cut_short text h (g.a_number {rest = rest} w cut is small no_digit none) = behind w rest (cut_short text h cut)
cut_short text h (g.a_string {q = q} {e = e} {bytes = bytes} {rest = rest} cut is content ends) = behind (e ∷ []) rest (content_short content (behind (q ∷ []) bytes (cut_short text h cut)))
cut_short text h (g.a_caret {m = b} {rest = rest} cut is no_equals no_name) = behind (b ∷ []) rest (cut_short text h cut)
cut_short text h (g.caret_equals {m = b} {e = e} {rest = rest} cut is equals) = behind (b ∷ e ∷ []) rest (cut_short text h cut)
cut_short text h (g.a_slash {m = b} {rest = rest} cut is s) = behind (b ∷ []) rest (cut_short text h cut)
cut_short text h (g.slash_equals {m = b} {e = e} {rest = rest} cut is equals) = behind (b ∷ e ∷ []) rest (cut_short text h cut)
cut_short text h (g.one_sign {m = b} {rest = rest} cut is s) = behind (b ∷ []) rest (cut_short text h cut)
cut_short text h (g.two_signs {m = b} {n = n} {rest = rest} cut is two s) = behind (b ∷ n ∷ []) rest (cut_short text h cut)
cut_short text h (g.three_signs {m = b} {n = n} {o = o} {rest = rest} cut is three) = behind (b ∷ n ∷ o ∷ []) rest (cut_short text h cut)

-- ---- tokens

abbrev IsShort : Token → Type 0
IsShort token = length token.text < 2 ^ 32

one_more : (done : List Token) (kind : TokenKind) (place : Place) (end number : ℕ) (text : List ℕ) → All IsShort done → length text < 2 ^ 32 → All IsShort (with done kind place end number text)
one_more done kind place end number text all short = All-push IsShort done (record { kind = kind; place = place; end = end; number = number; text = text }) all short

name_short : {path : Bool} {from : Place} {text : List ℕ} {w : List MarkedByte} (rest : List MarkedByte) → IsName path from text w → AreShort (w ++ rest) → length text < 2 ^ 32
name_short {w = w} rest name h = let e = row_of w rest (name_row name) in let le = name_length name in let lt = bounded (w ++ rest) h in omega (arith, e, le, lt)

string_short : {string : List ℕ} {bytes rest : List MarkedByte} → Content (Ok string) bytes rest → AreShort bytes → length string < 2 ^ 32
string_short {bytes = bytes} content h = let le = content_within content in let lt = bounded bytes h in omega (arith, le, lt)

tokens_short : (text : List MarkedByte) {done : List Token} {rest : List MarkedByte} → AreShort text → Cut text done rest → All IsShort done
tokens_short text h g.begun = λ i d lt. absurd (omega arith)
tokens_short text h (g.a_blank cut is) = tokens_short text h cut
tokens_short text h (g.a_line w cut one two each s) = tokens_short text h cut
tokens_short text h (g.a_block cut one two inside slash) = tokens_short text h cut
tokens_short text h (g.a_name {done = done} {path = path} {from = from} {name = name} {rest = rest} w cut is ends) = one_more done (name_kind path) from _ 0 name (tokens_short text h cut) (name_short rest is (cut_short text h cut))
tokens_short text h (g.a_root {done = done} {m = b} cut is s) = one_more done k.Path b.place _ 0 (92 ∷ []) (tokens_short text h cut) (omega arith)
tokens_short text h (g.a_zero {done = done} {m = b} cut is no_digit no_x none) = one_more done k.Number b.place _ 0 [] (tokens_short text h cut) (omega arith)
tokens_short text h (g.a_number {done = done} {from = from} {value = value} w cut is small no_digit none) = one_more done k.Number from _ value [] (tokens_short text h cut) (omega arith)
tokens_short text h (g.a_string {done = done} {q = q} {string = string} {bytes = bytes} cut is content ends) = one_more done k.Text q.place _ 0 string (tokens_short text h cut) (string_short content (behind (q ∷ []) bytes (cut_short text h cut)))
tokens_short text h (g.a_caret {done = done} {m = b} cut is no_equals no_name) = one_more done k.Symbol b.place _ 0 (94 ∷ []) (tokens_short text h cut) (omega arith)
tokens_short text h (g.caret_equals {done = done} {m = b} cut is equals) = one_more done k.Symbol b.place _ 0 (94 ∷ 61 ∷ []) (tokens_short text h cut) (omega arith)
tokens_short text h (g.a_slash {done = done} {m = b} cut is s) = one_more done k.Symbol b.place _ 0 (47 ∷ []) (tokens_short text h cut) (omega arith)
tokens_short text h (g.slash_equals {done = done} {m = b} cut is equals) = one_more done k.Symbol b.place _ 0 (47 ∷ 61 ∷ []) (tokens_short text h cut) (omega arith)
tokens_short text h (g.one_sign {done = done} {m = b} cut is s) = one_more done k.Symbol b.place _ 0 (b.byte ∷ []) (tokens_short text h cut) (omega arith)
tokens_short text h (g.two_signs {done = done} {m = b} {n = n} cut is two s) = one_more done k.Symbol b.place _ 0 (b.byte ∷ n.byte ∷ []) (tokens_short text h cut) (omega arith)
tokens_short text h (g.three_signs {done = done} {m = b} {n = n} {o = o} cut is three) = one_more done k.Symbol b.place _ 0 (b.byte ∷ n.byte ∷ o.byte ∷ []) (tokens_short text h cut) (omega arith)

-- ---- the marks of lines

abbrev LinesShort : List Line → Type 0
LinesShort [] = Unit {0}
LinesShort (l ∷ ls) = (length l.text < 2 ^ 32) × LinesShort ls

lines_short : (lines : List Line) → All (λ line. length line.text < 2 ^ 32) lines → LinesShort lines
lines_short [] all = tt
lines_short (l ∷ ls) all = (all 0 l (omega arith), lines_short ls (λ i d lt. all (suc i) d (omega (arith, lt))))

at_most : (t : Bool) (n m : ℕ) → n ≤ m → (if t then 0 else suc n) ≤ suc m
at_most true n m h = omega arith
at_most false n m h = omega (arith, h)

line_short : (file line column : ℕ) (bs : List ℕ) (rest : List MarkedByte) → length bs < 2 ^ 32 → row rest ≡ 0 → AreShort rest → (row (marks_from file line column bs ++ rest) ≤ length bs) × AreShort (marks_from file line column bs ++ rest)
unfolding marks_from
line_short file line column [] rest lt e h = (omega (arith, e), h)
line_short file line column (b ∷ bs) rest lt e h =
    let r = line_short file line (column + 1) bs rest (omega (arith, lt)) e h in
    let le = at_most (b == 10) (row (marks_from file line (column + 1) bs ++ rest)) (length bs) r.0 in
    (le, (omega (arith, le, lt), r.1))

following_short : (lines : List Line) → LinesShort lines → (row (following lines) ≡ 0) × AreShort (following lines)
unfolding following
following_short [] h = (refl, tt)
following_short (l ∷ ls) h = let r = following_short ls h.1 in (refl, (omega arith, (line_short l.file l.number 1 l.text (following ls) h.0 r.0 r.1).1))

joined_short : (lines : List Line) → LinesShort lines → AreShort (joined lines)
unfolding joined
joined_short [] h = tt
joined_short (l ∷ ls) h = let r = following_short ls h.1 in (line_short l.file l.number 1 l.text (following ls) h.0 r.0 r.1).1

-- the tokens of lines shorter than 2^32 have texts shorter than 2^32
pub lexed_short : (lines : List Line) (tokens : List Token) → tokens_of lines ≡ Ok tokens → All (λ line. length line.text < 2 ^ 32) lines → HaveShortTexts tokens
lexed_short lines tokens e h = tokens_short (joined lines) (joined_short lines (lines_short lines h)) (tokens_are_cut lines tokens e)
