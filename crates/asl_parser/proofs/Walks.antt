-- One step of a walk over the tokens.
use Rattle.std.proofs.Common.{◌≡◌, ℕ, zero, suc, ◌+◌, ◌≤◌, ◌<◌, List, [], ◌∷◌, Option, Some, None, length, get_or, drop, refl, sym, ap, ◌∙◌, drop-cons, arith, subst, Err}
use Rattle.std.proofs.lemmas.List.{drop_all}
use Rattle.std.proofs.lemmas.Bool.{le-leb, lt-leb}
use Rattle.asl_lexer.specs.declared.token.Token.{Token}
use Rattle.asl_syntax.specs.declared.mark.Mark.{Mark}
use Rattle.asl_syntax.specs.declared.subtree.Subtrees.{Subtrees}
use Rattle.asl_syntax.specs.declared.frame.Frame.{Frame}
use Rattle.asl_parser.specs.declared.state.ParserState.{ParserState}
use Rattle.asl_parser.specs.declared.state.Refusal.{Refusal}
use Rattle.asl_parser.specs.declared.state.Refusal.TheVariants as r
use Rattle.asl_parser.specs.declared.stage.Stage.{Stage}
use Rattle.asl_syntax.specs.Marks.{mark, marks}
use Rattle.asl_parser.specs.Stages.{StepsTo}
use Rattle.asl_syntax.specs.Frames.{depth}
use Rattle.asl_parser.specs.Machine.{Finishes, Answer, stop, deep, Config, step, walk, within, finish}

-- ---- tokens and their marks

pub length-marks : (n : ℕ) (ts : List Token) → length (marks n ts) ≡ length ts
length-marks n [] = refl
length-marks n (t ∷ ts) = ap suc (length-marks (suc n) ts)

pub marks-drop : (i n m : ℕ) (ts : List Token) → m ≡ n + i → marks m (drop i ts) ≡ drop i (marks n ts)
marks-drop zero n m ts e = let same : m ≡ n = omega arith in ap (λ (k : ℕ). marks k ts) same
marks-drop (suc i) n m [] e = refl
marks-drop (suc i) n m (t ∷ ts) e = marks-drop i (suc n) m ts (omega arith)

pub at_place : (ts : List Token) (i : ℕ) (t : Token) → i < length ts → t ≡ get_or ts i t → drop i (marks 0 ts) ≡ mark i t ∷ drop (suc i) (marks 0 ts)
at_place ts i t h is =
    let here : drop i ts ≡ t ∷ drop (suc i) ts = drop-cons ts i t h ∙ ap (λ (x : Token). x ∷ drop (suc i) ts) (sym is) in
    sym (marks-drop i 0 i ts (omega arith)) ∙ ap (marks i) here ∙ ap (λ (ms : List Mark). mark i t ∷ ms) (marks-drop (suc i) 0 (suc i) ts (omega arith))

-- ---- steps

pub walk_on : (bound : ℕ) (x : Mark) (ms : List Mark) (a : ParserState) (fs : List Frame) (m : Option Config) → depth fs ≤ bound → step x a fs ≡ m → walk (within bound) (x ∷ ms) a fs ≡ elim m [ None ↦ stop (x ∷ ms) | Some c ↦ walk (within bound) ms c.0 c.1 ]
unfolding walk
walk_on bound x ms a fs m low is = rw (le-leb (depth fs) bound low) (ap (λ (n : Option Config). elim n [ None ↦ stop (x ∷ ms) | Some c ↦ walk (within bound) ms c.0 c.1 ]) is)

pub walk_refused : (bound : ℕ) (ts : List Token) (i : ℕ) (t : Token) (x : Mark) (a : ParserState) (fs : List Frame) → i < length ts → t ≡ get_or ts i t → x ≡ mark i t → depth fs ≤ bound → step x a fs ≡ None
    → walk (within bound) (drop i (marks 0 ts)) a fs ≡ stop (drop i (marks 0 ts))
walk_refused bound ts i t x a fs h at made low is =
    let e : drop i (marks 0 ts) ≡ x ∷ drop (suc i) (marks 0 ts) = at_place ts i t h at ∙ ap (λ (y : Mark). y ∷ drop (suc i) (marks 0 ts)) (sym made) in
    ap (λ (ms : List Mark). walk (within bound) ms a fs) e ∙ walk_on bound x (drop (suc i) (marks 0 ts)) a fs None low is ∙ ap stop (sym e)

pub walk_moves : (bound : ℕ) (ts : List Token) (i : ℕ) (t : Token) (x : Mark) (a b : ParserState) (fs gs : List Frame) → i < length ts → t ≡ get_or ts i t → x ≡ mark i t → depth fs ≤ bound → step x a fs ≡ Some (b, gs)
    → walk (within bound) (drop i (marks 0 ts)) a fs ≡ walk (within bound) (drop (suc i) (marks 0 ts)) b gs
walk_moves bound ts i t x a b fs gs h at made low is =
    let e : drop i (marks 0 ts) ≡ x ∷ drop (suc i) (marks 0 ts) = at_place ts i t h at ∙ ap (λ (y : Mark). y ∷ drop (suc i) (marks 0 ts)) (sym made) in
    ap (λ (ms : List Mark). walk (within bound) ms a fs) e ∙ walk_on bound x (drop (suc i) (marks 0 ts)) a fs (Some (b, gs)) low is

pub walk_sinks : (bound : ℕ) (ms : List Mark) (a : ParserState) (fs : List Frame) → bound < depth fs → walk (within bound) ms a fs ≡ deep ms
unfolding walk
walk_sinks bound [] a fs h = rw (lt-leb (depth fs) bound h) refl
walk_sinks bound (x ∷ ms) a fs h = rw (lt-leb (depth fs) bound h) refl

pub walk_ends : (bound : ℕ) (ms : List Mark) (i : ℕ) (a : ParserState) (fs : List Frame) → length ms ≤ i → depth fs ≤ bound → walk (within bound) (drop i ms) a fs ≡ finish a fs
unfolding walk
walk_ends bound ms i a fs h low = ap (λ (us : List Mark). walk (within bound) us a fs) (drop_all i ms h) ∙ rw (le-leb (depth fs) bound low) refl

pub moves_refused : (x : Refusal) (stage : Stage) (new : Subtrees × List Frame) (m : Option Config) → x ≡ r.Refused → StepsTo (Err x) stage new m → m ≡ None
moves_refused x stage new m e h = subst (λ (y : Refusal). StepsTo (Err y) stage new m) e h

pub finishes_refused : (x : Refusal) (m : Answer) → x ≡ r.Refused → Finishes (Err x) m → m ≡ stop []
finishes_refused x m e h = subst (λ (y : Refusal). Finishes (Err y) m) e h
