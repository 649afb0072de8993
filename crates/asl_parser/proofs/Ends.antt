-- Which tokens may stand behind an expression, and that the operators before it are then applied.
use Rattle.std.proofs.Common.{◌≡◌, ℕ, ◌≤◌, List, [], ◌∷◌, Option, Some, None, refl, ap, arith}
use Rattle.std.proofs.lemmas.Bool.{le-leb}
use Rattle.asl_syntax.specs.declared.sign.Sign.TheVariants as s
use Rattle.asl_syntax.specs.declared.sign.Strength.{Strength}
use Rattle.asl_syntax.specs.declared.mark.Spot.{Spot}
use Rattle.asl_syntax.specs.declared.mark.Lexeme.{Lexeme}
use Rattle.asl_syntax.specs.declared.mark.Lexeme.TheVariants as l
use Rattle.asl_syntax.specs.declared.mark.Mark.{Mark}
use Rattle.asl_syntax.specs.declared.raw.Infix.{Infix}
use Rattle.asl_syntax.specs.declared.subtree.Subtree.{Subtree}
use Rattle.asl_syntax.specs.declared.subtree.Subtrees.{Subtrees}
use Rattle.asl_syntax.specs.declared.frame.Frame.{Frame}
use Rattle.asl_syntax.specs.declared.frame.Frame.TheVariants as f
use Rattle.asl_parser.specs.declared.state.ParserState.TheVariants as st
use Rattle.asl_syntax.specs.Signs.{strength}
use Rattle.asl_syntax.specs.Grow.{applied}
use Rattle.asl_parser.specs.Machine.{Config, Answer, stop, walk, settle, operator, enclosed, after, after_by, after_lexeme, run, finish_whole, close_source}

abbrev pub pull_by : Option Strength → ℕ
pull_by None = 13
pull_by (Some o) = o.pull

-- up to which level what stands before such a token is applied; none where it may not follow an expression
abbrev pub pull_of : Lexeme → Option ℕ
pull_of (l.Sign s.LeftParen) = None
pull_of (l.Sign s.LeftBrace) = None
pull_of (l.Sign s.LeftBracket) = Some 1
pull_of (l.Sign (s.Postfix o)) = Some 1
pull_of (l.Sign (s.Binary i)) = Some (pull_by (strength i))
pull_of _ = Some 13

abbrev pub EndsBy : ℕ → Option ℕ → Type 0
EndsBy n None = ⊥
EndsBy n (Some k) = n ≤ k

-- such tokens may stand behind an expression of this level
abbrev pub Ends : ℕ → List Mark → Type 0
Ends n [] = Unit {0}
Ends n (t ∷ ts) = EndsBy n (pull_of t.lexeme)

EndsBy-less : (a b : ℕ) (k : Option ℕ) → a ≤ b → EndsBy b k → EndsBy a k
EndsBy-less a b None h e = e
EndsBy-less a b (Some k) h e = omega arith

pub Ends-less : (a b : ℕ) (ts : List Mark) → a ≤ b → Ends b ts → Ends a ts
Ends-less a b [] h e = tt
Ends-less a b (t ∷ ts) h e = EndsBy-less a b (pull_of t.lexeme) h e

-- ---- an operator that waits is applied

pub settle_more : (k level most : ℕ) (p : Spot) (o : Infix) (xs : Subtrees) (e : Subtree) (fs : List Frame) → level ≤ k
    → settle k e (f.Pending level most p o xs ∷ fs) ≡ settle k (applied p o xs e) fs
unfolding settle
settle_more k level most p o xs e fs h = rw (le-leb level k h) refl

after_by_more : (q : Spot) (i : Infix) (x : Option Strength) (level most : ℕ) (p : Spot) (o : Infix) (xs : Subtrees) (e : Subtree) (fs : List Frame) → level ≤ pull_by x
    → after_by q i x e (f.Pending level most p o xs ∷ fs) ≡ after_by q i x (applied p o xs e) fs
after_by_more q i None level most p o xs e fs h = ap (enclosed q (l.Sign (s.Binary i))) (settle_more 13 level most p o xs e fs h)
after_by_more q i (Some b) level most p o xs e fs h = ap (operator q i b) (settle_more b.pull level most p o xs e fs h)

enclosed_more : (q : Spot) (x : Lexeme) (level most : ℕ) (p : Spot) (o : Infix) (xs : Subtrees) (e : Subtree) (fs : List Frame) → level ≤ 13
    → enclosed q x (settle 13 e (f.Pending level most p o xs ∷ fs)) ≡ enclosed q x (settle 13 (applied p o xs e) fs)
enclosed_more q x level most p o xs e fs h = ap (enclosed q x) (settle_more 13 level most p o xs e fs h)

after_lexeme_more : (q : Spot) (x : Lexeme) (level most : ℕ) (p : Spot) (o : Infix) (xs : Subtrees) (e : Subtree) (fs : List Frame) → 2 ≤ level → level ≤ 13 → EndsBy level (pull_of x)
    → after_lexeme q x e (f.Pending level most p o xs ∷ fs) ≡ after_lexeme q x (applied p o xs e) fs
after_lexeme_more q (l.Sign s.LeftParen) level most p o xs e fs low high h = absurd h
after_lexeme_more q (l.Sign s.LeftBrace) level most p o xs e fs low high h = absurd h
after_lexeme_more q (l.Sign s.LeftBracket) level most p o xs e fs low high h = absurd (omega arith)
after_lexeme_more q (l.Sign (s.Postfix i)) level most p o xs e fs low high h = absurd (omega arith)
after_lexeme_more q (l.Sign (s.Binary i)) level most p o xs e fs low high h = after_by_more q i (strength i) level most p o xs e fs h
after_lexeme_more q (l.Sign x) level most p o xs e fs low high h = enclosed_more q (l.Sign x) level most p o xs e fs high
after_lexeme_more q (l.Word path w) level most p o xs e fs low high h = enclosed_more q (l.Word path w) level most p o xs e fs high
after_lexeme_more q (l.Number n) level most p o xs e fs low high h = enclosed_more q (l.Number n) level most p o xs e fs high
after_lexeme_more q (l.Text w) level most p o xs e fs low high h = enclosed_more q (l.Text w) level most p o xs e fs high
after_lexeme_more q l.Other level most p o xs e fs low high h = enclosed_more q l.Other level most p o xs e fs high

pub finish_more : (level most : ℕ) (p : Spot) (o : Infix) (xs : Subtrees) (e : Subtree) (fs : List Frame) → level ≤ 13
    → finish_whole e (f.Pending level most p o xs ∷ fs) ≡ finish_whole (applied p o xs e) fs
unfolding finish_whole
finish_more level most p o xs e fs high = ap (λ (r : Subtree × List Frame). close_source r.0 r.1) (settle_more 13 level most p o xs e fs high)

pub after_more : (t : Mark) (level most : ℕ) (p : Spot) (o : Infix) (xs : Subtrees) (e : Subtree) (fs : List Frame) → 2 ≤ level → level ≤ 13 → EndsBy level (pull_of t.lexeme)
    → after t.spot t.lexeme e (f.Pending level most p o xs ∷ fs) ≡ after t.spot t.lexeme (applied p o xs e) fs
unfolding after
after_more t level most p o xs e fs low high h = after_lexeme_more t.spot t.lexeme level most p o xs e fs low high h

unfoldable pub then_run : Mark → List Mark → Option Config → Answer
then_run t ts c = elim c [ None ↦ stop (t ∷ ts) | Some d ↦ run ts d.0 d.1 ]

pub run_more : (ts : List Mark) (level most : ℕ) (p : Spot) (o : Infix) (xs : Subtrees) (e : Subtree) (fs : List Frame) → 2 ≤ level → level ≤ 13 → Ends level ts
    → run ts (st.Whole e) (f.Pending level most p o xs ∷ fs) ≡ run ts (st.Whole (applied p o xs e)) fs
unfolding walk then_run after finish_whole
run_more [] level most p o xs e fs low high h = finish_more level most p o xs e fs high
run_more (t ∷ ts) level most p o xs e fs low high h = ap (then_run t ts) (after_more t level most p o xs e fs low high h)
