-- Each token of a cut is fine.
use Rattle.std.proofs.Common.{◌≡◌, ℕ, ◌^◌, ◌<◌, Bool, true, false, cond, List, [], ◌∷◌, Option, Some, None, Result, Ok, Err, refl, arith}
use Rattle.std.specs.Prelude.{IfOk, ◌==◌}
use Rattle.std.specs.List.{All}
use Rattle.std.proofs.lemmas.List.Elements.{All-push}
use Rattle.iasl_messages.specs.declared.place.Place.{Place}
use Rattle.iasl_messages.specs.declared.place.Line.{Line}
use Rattle.iasl_messages.specs.declared.message.Stage.{Stage}
use Rattle.asl_lexer.specs.declared.token.Token.{Token}
use Rattle.asl_lexer.specs.declared.token.TokenKind.{TokenKind}
use Rattle.asl_lexer.specs.declared.token.TokenKind.TheVariants as k
use Rattle.asl_lexer.specs.declared.mode.Fault.{Fault}
use Rattle.asl_lexer.specs.Scan.{MarkedByte, is_plain, escaped, with, with_symbol, name_kind}
use Rattle.asl_lexer.specs.Marks.{joined}
use Rattle.asl_lexer.specs.Cut.{Content, Cut, IsCut}
use Rattle.asl_lexer.specs.Cut as g
use Rattle.asl_lexer.specs.Fine.{IsFine}

chosen : (t : Bool) (v : ℕ) (o : Option ℕ) → is_plain v ≡ true → ((x : ℕ) → o ≡ Some x → is_plain x ≡ true) → (x : ℕ) → cond t (Some v) o ≡ Some x → is_plain x ≡ true
chosen true v o plain others x e = let same : v ≡ x = cc in cc
chosen false v o plain others x e = others x e

-- what an escape of one letter or mark stands for
escaped_plain : (b x : ℕ) → escaped b ≡ Some x → is_plain x ≡ true
escaped_plain b =
    chosen (b == 97) 7 _ refl (chosen (b == 98) 8 _ refl (chosen (b == 102) 12 _ refl (chosen (b == 110) 10 _ refl (chosen (b == 114) 13 _ refl (chosen (b == 116) 9 _ refl (
    chosen (b == 118) 11 _ refl (chosen (b == 34) 34 _ refl (chosen (b == 39) 39 _ refl (chosen (b == 92) 92 None refl (λ x e. absurd cc))))))))))

abbrev Plain : Result (List ℕ) Fault → Type 0
Plain (Ok string) = All (λ b. is_plain b ≡ true) string
Plain (Err fault) = Unit {0}

content_plain : {s : Result (List ℕ) Fault} {bytes rest : List MarkedByte} → Content s bytes rest → Plain s
content_plain g.no_bytes = λ i d h. absurd (omega arith)
content_plain (g.plain {text = string} {m = b} content is plain) = All-push (λ b. is_plain b ≡ true) string b.byte (content_plain content) plain
content_plain (g.bad_byte content is plain) = tt
content_plain (g.escape {text = string} {x = x} {m = b} content slash line is) = All-push (λ b. is_plain b ≡ true) string x (content_plain content) (escaped_plain b.byte x is)
content_plain (g.code {text = string} {value = value} w content slash code ends plain) = All-push (λ b. is_plain b ≡ true) string value (content_plain content) plain
content_plain (g.bad_code w content slash code ends plain) = tt
content_plain (g.no_code content slash line none no_digit is_x ends) = tt
content_plain (g.no_escape content slash line none no_digit no_x) = tt
content_plain (g.passed content is) = tt
content_plain (g.passed_escape content slash line) = tt

one_more : (done : List Token) (kind : TokenKind) (place : Place) (end number : ℕ) (text : List ℕ) → All IsFine done → number < 2 ^ 64 → (kind ≡ k.Text → All (λ b. is_plain b ≡ true) text) → All IsFine (with done kind place end number text)
one_more done kind place end number text all fits plain = All-push IsFine done (record { kind = kind; place = place; end = end; number = number; text = text }) all (record { fits = fits; plain = plain })

name_no_text : (path : Bool) → name_kind path ≡ k.Text → ⊥
name_no_text true e = cc
name_no_text false e = cc

a_symbol : (done : List Token) (place : Place) (text : List ℕ) → All IsFine done → All IsFine (with_symbol done place text)
a_symbol done place text all = one_more done k.Symbol place _ 0 text all (omega arith) (λ e. absurd cc)

fine : (text : List MarkedByte) {done : List Token} {rest : List MarkedByte} → Cut text done rest → All IsFine done
fine text g.begun = λ i d h. absurd (omega arith)
fine text (g.a_blank cut is) = fine text cut
fine text (g.a_line w cut first second each s) = fine text cut
fine text (g.a_block cut first second inside slash) = fine text cut
fine text (g.a_name {done = done} {path = path} {from = from} {name = name} w cut is ends) = one_more done (name_kind path) from _ 0 name (fine text cut) (omega arith) (λ e. absurd (name_no_text path e))
fine text (g.a_root {done = done} {m = b} cut is s) = one_more done k.Path b.place _ 0 (92 ∷ []) (fine text cut) (omega arith) (λ e. absurd cc)
fine text (g.a_zero {done = done} {m = b} cut is no_digit no_x none) = one_more done k.Number b.place _ 0 [] (fine text cut) (omega arith) (λ e. absurd cc)
fine text (g.a_number {done = done} {from = from} {value = value} w cut is small no_digit none) = one_more done k.Number from _ value [] (fine text cut) small (λ e. absurd cc)
fine text (g.a_string {done = done} {q = q} {string = string} cut is content ends) = one_more done k.Text q.place _ 0 string (fine text cut) (omega arith) (λ e. content_plain content)
fine text (g.a_caret {done = done} {m = b} cut is no_equals no_name) = a_symbol done b.place (94 ∷ []) (fine text cut)
fine text (g.caret_equals {done = done} {m = b} cut is equals) = a_symbol done b.place (94 ∷ 61 ∷ []) (fine text cut)
fine text (g.a_slash {done = done} {m = b} cut is s) = a_symbol done b.place (47 ∷ []) (fine text cut)
fine text (g.slash_equals {done = done} {m = b} cut is equals) = a_symbol done b.place (47 ∷ 61 ∷ []) (fine text cut)
fine text (g.one_sign {done = done} {m = b} cut is s) = a_symbol done b.place (b.byte ∷ []) (fine text cut)
fine text (g.two_signs {done = done} {m = b} {n = n} cut is two s) = a_symbol done b.place (b.byte ∷ n.byte ∷ []) (fine text cut)
fine text (g.three_signs {done = done} {m = b} {n = n} {o = o} cut is three) = a_symbol done b.place (b.byte ∷ n.byte ∷ o.byte ∷ []) (fine text cut)

pub cut_is_fine : (lines : List Line) (tokens : List Token) → IsCut lines tokens → All IsFine tokens
cut_is_fine lines tokens cut = fine (joined lines) cut

pub is_fine : (lines : List Line) (r : Result (List Token) Stage) → IfOk r (λ tokens. IsCut lines tokens) → IfOk r (λ tokens. All IsFine tokens)
is_fine lines (Ok tokens) h = cut_is_fine lines tokens h
is_fine lines (Err x) h = tt
