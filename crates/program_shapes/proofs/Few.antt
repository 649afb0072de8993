-- A source has fewer than 2^32 tokens: each token takes at least one byte of the joined lines.
use Rattle.std.proofs.Common.{◌≡◌, ℕ, suc, ◌+◌, ◌<◌, ◌≤◌, ◌^◌, Bool, List, [], ◌∷◌, ◌++◌, length, Result, Ok, refl, ap, arith, length-append}
use Rattle.std.specs.List.{sum_by}
use Rattle.std.proofs.lemmas.List.Sums.{sum_by-cons}
use Rattle.iasl_messages.specs.declared.place.Place.{Place}
use Rattle.iasl_messages.specs.declared.place.Line.{Line}
use Rattle.asl_lexer.specs.declared.class.Radix.{Radix}
use Rattle.asl_lexer.specs.declared.token.Token.{Token}
use Rattle.asl_lexer.specs.declared.token.TokenKind.{TokenKind}
use Rattle.asl_lexer.specs.declared.mode.Fault.{Fault}
use Rattle.asl_lexer.specs.Scan.{MarkedByte, with}
use Rattle.asl_lexer.specs.Marks.{marks_from, line_marks, following, joined, tokens_of}
use Rattle.asl_lexer.specs.Cut.{IsName, IsNumeral, Content, Inside, Cut}
use Rattle.asl_lexer.specs.Cut as g
use Rattle.asl_lexer.proofs.Told.{tokens_are_cut}

-- ---- what a token takes

name_some : {path : Bool} {from : Place} {text : List ℕ} {w : List MarkedByte} → IsName path from text w → 1 ≤ length w
name_some (g.IsName.word is) = omega arith
name_some (g.IsName.rooted is begins) = omega arith
name_some (g.IsName.raised before last cs b each at begins) = omega (arith, length-append cs (b ∷ []))
name_some (g.IsName.more {w = w} b name is) = omega (arith, length-append w (b ∷ []))
name_some (g.IsName.dotted {w = w} d b name dot begins) = omega (arith, length-append w (d ∷ b ∷ []))

numeral_some : {radix : Radix} {from : Place} {value : ℕ} {w : List MarkedByte} → IsNumeral radix from value w → 1 ≤ length w
numeral_some (g.IsNumeral.decimal is) = omega arith
numeral_some (g.IsNumeral.octal is_zero is) = omega arith
numeral_some (g.IsNumeral.hexadecimal is_zero is_x is) = omega arith
numeral_some (g.IsNumeral.more {w = w} b numeral is) = omega (arith, length-append w (b ∷ []))

inside_less : {s : Bool} {bytes rest : List MarkedByte} → Inside s bytes rest → length rest ≤ length bytes
inside_less g.opened = omega arith
inside_less (g.a_star inside is) = let le = inside_less inside in omega (arith, le)
inside_less (g.no_star inside other) = let le = inside_less inside in omega (arith, le)
inside_less (g.behind_star inside other no_slash) = let le = inside_less inside in omega (arith, le)

content_less : {s : Result (List ℕ) Fault} {bytes rest : List MarkedByte} → Content s bytes rest → length rest ≤ length bytes
content_less g.no_bytes = omega arith
content_less (g.plain content is plain) = let le = content_less content in omega (arith, le)
content_less (g.bad_byte content is plain) = let le = content_less content in omega (arith, le)
content_less (g.escape content slash line is) = let le = content_less content in omega (arith, le)
content_less (g.code {rest = rest} w content slash code ends plain) = let le = content_less content in omega (arith, le, length-append w rest)
content_less (g.bad_code {rest = rest} w content slash code ends plain) = let le = content_less content in omega (arith, le, length-append w rest)
content_less (g.no_code content slash line none no_digit is_x ends) = let le = content_less content in omega (arith, le)
content_less (g.no_escape content slash line none no_digit no_x) = let le = content_less content in omega (arith, le)
content_less (g.passed content is) = let le = content_less content in omega (arith, le)
content_less (g.passed_escape content slash line) = let le = content_less content in omega (arith, le)

-- ---- tokens and what is left are no more than the bytes

one_token : (done : List Token) (kind : TokenKind) (place : Place) (end number : ℕ) (text : List ℕ) → length (with done kind place end number text) ≡ length done + 1
one_token done kind place end number text = length-append done (record { kind = kind; place = place; end = end; number = number; text = text } ∷ [])

-- a token more, where at least one byte less is left
taken : (done : List Token) (kind : TokenKind) (place : Place) (end number : ℕ) (text : List ℕ) (before left all : ℕ) → length done + before ≤ all → left + 1 ≤ before
    → length (with done kind place end number text) + left ≤ all
taken done kind place end number text before left all le lt = omega (arith, le, lt, one_token done kind place end number text)

cut_few : (text : List MarkedByte) {done : List Token} {rest : List MarkedByte} → Cut text done rest → length done + length rest ≤ length text
cut_few text g.begun = omega arith
cut_few text (g.a_blank cut is) = let le = cut_few text cut in omega (arith, le)
cut_few text (g.a_line {rest = rest} w cut one two each s) = let le = cut_few text cut in omega (arith, le, length-append w rest)
cut_few text (g.a_block cut one two inside slash) = let le = cut_few text cut in let less = inside_less inside in omega (arith, le, less)
cut_few text (g.a_name {done = done} {rest = rest} w cut is ends) = let some = name_some is in taken done _ _ _ _ _ (length (w ++ rest)) (length rest) (length text) (cut_few text cut) (omega (arith, some, length-append w rest))
cut_few text (g.a_root {done = done} {m = b} {rest = rest} cut is s) = taken done _ _ _ _ _ (length (b ∷ rest)) (length rest) (length text) (cut_few text cut) (omega arith)
cut_few text (g.a_zero {done = done} {m = b} {rest = rest} cut is no_digit no_x none) = taken done _ _ _ _ _ (length (b ∷ rest)) (length rest) (length text) (cut_few text cut) (omega arith)
cut_few text (g.a_number {done = done} {rest = rest} w cut is small no_digit none) = let some = numeral_some is in taken done _ _ _ _ _ (length (w ++ rest)) (length rest) (length text) (cut_few text cut) (omega (arith, some, length-append w rest))
cut_few text (g.a_string {done = done} {q = q} {bytes = bytes} {rest = rest} cut is content ends) = let less = content_less content in taken done _ _ _ _ _ (length (q ∷ bytes)) (length rest) (length text) (cut_few text cut) (omega (arith, less))
cut_few text (g.a_caret {done = done} {m = b} {rest = rest} cut is no_equals no_name) = taken done _ _ _ _ _ (length (b ∷ rest)) (length rest) (length text) (cut_few text cut) (omega arith)
cut_few text (g.caret_equals {done = done} {m = b} {e = e} {rest = rest} cut is equals) = taken done _ _ _ _ _ (length (b ∷ e ∷ rest)) (length rest) (length text) (cut_few text cut) (omega arith)
cut_few text (g.a_slash {done = done} {m = b} {rest = rest} cut is s) = taken done _ _ _ _ _ (length (b ∷ rest)) (length rest) (length text) (cut_few text cut) (omega arith)
cut_few text (g.slash_equals {done = done} {m = b} {e = e} {rest = rest} cut is equals) = taken done _ _ _ _ _ (length (b ∷ e ∷ rest)) (length rest) (length text) (cut_few text cut) (omega arith)
cut_few text (g.one_sign {done = done} {m = b} {rest = rest} cut is s) = taken done _ _ _ _ _ (length (b ∷ rest)) (length rest) (length text) (cut_few text cut) (omega arith)
cut_few text (g.two_signs {done = done} {m = b} {n = n} {rest = rest} cut is two s) = taken done _ _ _ _ _ (length (b ∷ n ∷ rest)) (length rest) (length text) (cut_few text cut) (omega arith)
cut_few text (g.three_signs {done = done} {m = b} {n = n} {o = o} {rest = rest} cut is three) = taken done _ _ _ _ _ (length (b ∷ n ∷ o ∷ rest)) (length rest) (length text) (cut_few text cut) (omega arith)

-- ---- the bytes of lines, with an LF behind each

abbrev bytes_of : List Line → ℕ
bytes_of lines = sum_by (λ (line : Line). length line.text + 1) lines

marks_many : (file line column : ℕ) (bs : List ℕ) → length (marks_from file line column bs) ≡ length bs
unfolding marks_from
marks_many file line column [] = refl
marks_many file line column (b ∷ bs) = ap suc (marks_many file line (column + 1) bs)

following_many : (lines : List Line) → length (following lines) ≡ bytes_of lines
unfolding following
following_many [] = refl
following_many (l ∷ ls) =
    let e = following_many ls in
    let c : bytes_of (l ∷ ls) ≡ (length l.text + 1) + bytes_of ls = sum_by-cons (λ (line : Line). length line.text + 1) l ls in
    omega (arith, e, c, length-append (line_marks l) (following ls), marks_many l.file l.number 1 l.text)

joined_many : (lines : List Line) → length (joined lines) ≤ bytes_of lines
unfolding joined
joined_many [] = omega arith
joined_many (l ∷ ls) =
    let c : bytes_of (l ∷ ls) ≡ (length l.text + 1) + bytes_of ls = sum_by-cons (λ (line : Line). length line.text + 1) l ls in
    omega (arith, following_many ls, c, length-append (line_marks l) (following ls), marks_many l.file l.number 1 l.text)

-- lines of at most 2^25 bytes in all, with an LF behind each, have fewer than 2^32 tokens
pub few_tokens : (lines : List Line) (tokens : List Token) → tokens_of lines ≡ Ok tokens → sum_by (λ line. length line.text + 1) lines ≤ 2 ^ 25 → length tokens < 2 ^ 32
few_tokens lines tokens e h = let le = cut_few (joined lines) (tokens_are_cut lines tokens e) in omega (arith, le, h, joined_many lines)
