-- One step of a scan over marked bytes.
use Rattle.std.proofs.Common.{◌≡◌, ℕ, suc, ◌+◌, ◌-◌, ◌<◌, ◌≤◌, List, [], ◌∷◌, ◌++◌, Result, Ok, Err, length, get_or, take, drop, refl, sym, ap, subst, ◌∙◌, drop-cons, arith}
use Rattle.std.specs.List.{All}
use Rattle.std.proofs.lemmas.List.{drop_all, take_all, at_drop_more}
use Rattle.std.proofs.lemmas.List.Elements.{All-tail}
use Rattle.iasl_messages.specs.declared.place.Place.{Place}
use Rattle.iasl_messages.specs.declared.place.Line.{Line}
use Rattle.asl_lexer.specs.declared.token.Token.{Token}
use Rattle.asl_lexer.specs.declared.mode.Fault.{Fault}
use Rattle.asl_lexer.specs.declared.mode.LexerStop.{LexerStop}
use Rattle.asl_lexer.specs.declared.mode.LexerStop.TheVariants as stop
use Rattle.asl_lexer.specs.declared.mode.Mode.{Mode}
use Rattle.asl_lexer.specs.Scan.{MarkedByte, Moved, step, scan, finish, Fails, caret_text}
use Rattle.asl_lexer.specs.Runs.{AtBreak}
use Rattle.asl_lexer.specs.Marks.{mark_at, marks_from, line_marks, break_mark, following, joined, tokens_of}
use Rattle.asl_lexer.specs.declared.mode.Mode.TheVariants as m

unfoldable pub then_scan : List MarkedByte → Moved → Result (List Token) Fault
then_scan bs m = elim m [ Ok r ↦ scan bs r.0 r.1 | Err x ↦ Err x ]

pub scan_steps : (b : MarkedByte) (bs : List MarkedByte) (mode : Mode) (done : List Token) (r : Moved) → step mode b.place b.byte done ≡ r → scan (b ∷ bs) mode done ≡ then_scan bs r
unfolding scan then_scan
scan_steps b bs mode done r e = ap (then_scan bs) e

pub scan_goes : (b : MarkedByte) (bs : List MarkedByte) (mode next : Mode) (done more : List Token) → step mode b.place b.byte done ≡ Ok (next, more) → scan (b ∷ bs) mode done ≡ scan bs next more
unfolding then_scan
scan_goes b bs mode next done more e = scan_steps b bs mode done (Ok (next, more)) e

pub scan_fails : (x : LexerStop) (b : MarkedByte) (bs : List MarkedByte) (mode : Mode) (done : List Token) → Fails x (step mode b.place b.byte done) → Fails x (scan (b ∷ bs) mode done)
unfolding then_scan
scan_fails stop.Memory b bs mode done f = tt
scan_fails (stop.Fault x) b bs mode done f = scan_steps b bs mode done (Err x) f

-- the marks of what is left of a line begin with the byte at its place
pub marks_next : (file line : ℕ) (bs : List ℕ) (i : ℕ) (rest : List MarkedByte) → i < length bs → marks_from file line (i + 1) (drop i bs) ++ rest ≡ mark_at file line (i + 1) (get_or bs i 0) ∷ (marks_from file line ((i + 1) + 1) (drop (i + 1) bs) ++ rest)
unfolding marks_from
marks_next file line bs i rest h = ap (λ us. marks_from file line (i + 1) us ++ rest) (drop-cons bs i 0 h) ∙ ap (λ n. mark_at file line (i + 1) (get_or bs i 0) ∷ (marks_from file line ((i + 1) + 1) (drop n bs) ++ rest)) (let e : suc i ≡ i + 1 = omega arith in e)

pub marks_none : (file line : ℕ) (bs : List ℕ) (i : ℕ) (rest : List MarkedByte) → length bs ≤ i → marks_from file line (i + 1) (drop i bs) ++ rest ≡ rest
unfolding marks_from
marks_none file line bs i rest h = ap (λ us. marks_from file line (i + 1) us ++ rest) (drop_all i bs h)

-- what is left of further lines begins with the line at its place
pub following_next : (ls : List Line) (i : ℕ) (l : Line) → i < length ls → l ≡ get_or ls i l → following (drop i ls) ≡ break_mark l ∷ (line_marks l ++ following (drop (i + 1) ls))
unfolding following
following_next ls i l h e =
    ap following (drop-cons ls i l h) ∙ ap (λ k. break_mark k ∷ (line_marks k ++ following (drop (suc i) ls))) (sym e)
    ∙ ap (λ n. break_mark l ∷ (line_marks l ++ following (drop n ls))) (let same : suc i ≡ i + 1 = omega arith in same)

pub following_none : (ls : List Line) (i : ℕ) → length ls ≤ i → following (drop i ls) ≡ []
unfolding following
following_none ls i h = ap following (drop_all i ls h)

-- they begin with the end of a line
pub following_breaks : (ls : List Line) → AtBreak (following ls)
unfolding following
following_breaks [] = tt
following_breaks (l ∷ ls) = refl

pub tokens_of-none : tokens_of [] ≡ Ok []
unfolding tokens_of joined scan
tokens_of-none = refl

pub tokens_of-some : (l : Line) (ls : List Line) → tokens_of (l ∷ ls) ≡ scan (line_marks l ++ following ls) m.Between []
unfolding tokens_of joined
tokens_of-some l ls = refl

pub scan_end : (mode : Mode) (done : List Token) → scan [] mode done ≡ finish mode done
unfolding scan
scan_end mode done = refl

-- ---- the first line

all_but_none : (l : Line) (ls : List Line) → take (length (l ∷ ls) - 1) ls ≡ ls
all_but_none l ls = take_all (length (l ∷ ls) - 1) ls (omega arith)

pub tokens_of-lines : (ls : List Line) (l : Line) → 1 ≤ length ls → l ≡ get_or ls 0 l → tokens_of ls ≡ scan (line_marks l ++ following (take (length ls - 1) (drop 1 ls))) m.Between []
unfolding tokens_of joined
tokens_of-lines [] l h e = absurd (omega arith)
tokens_of-lines (x ∷ xs) l h e =
    ap (λ k. scan (line_marks k ++ following xs) m.Between []) (sym e) ∙ ap (λ ks. scan (line_marks l ++ following ks) m.Between []) (sym (all_but_none x xs))

pub tokens_of-no_lines : (ls : List Line) → length ls < 1 → tokens_of ls ≡ Ok []
tokens_of-no_lines [] h = tokens_of-none
tokens_of-no_lines (x ∷ xs) h = absurd (omega arith)

pub All-others : (P : Line → Type 0) (ls : List Line) → All P ls → All P (take (length ls - 1) (drop 1 ls))
All-others P [] all = λ k d h. absurd (omega arith)
All-others P (x ∷ xs) all = subst (All P) (sym (all_but_none x xs)) (All-tail P x xs all)

pub All-first : (P : Line → Type 0) (ls : List Line) (l : Line) → 1 ≤ length ls → l ≡ get_or ls 0 l → All P ls → P l
All-first P ls l h e all = subst P (sym e) (all 0 l (omega arith))

-- ---- what comes of two parts

pub fails_through : (x : LexerStop) (rest : List MarkedByte) (y z : Result (List Token) Fault) → z ≡ y → Fails x y → Fails x z
fails_through x rest y z e f = subst (Fails x) (sym e) f

-- ---- carets

pub caret_text_next : (ps : List Place) (i : ℕ) → i < length ps → caret_text (drop i ps) ≡ 94 ∷ caret_text (drop (i + 1) ps)
caret_text_next ps i h = at_drop_more caret_text ps i (record { file = 0; line = 0; column = 0 }) h
