-- A token that is an expression by itself, with the token behind it.
use Rattle.std.proofs.Common.{◌≡◌, ℕ, Bool, true, false, List, [], ◌∷◌, Option, Some, None, refl, sym, ap, ◌∙◌, subst, arith}
use Rattle.asl_syntax.specs.declared.mark.Spot.{Spot}
use Rattle.asl_syntax.specs.declared.mark.Lexeme.{Lexeme}
use Rattle.asl_syntax.specs.declared.mark.Lexeme.TheVariants as l
use Rattle.asl_syntax.specs.declared.mark.Mark.{Mark}
use Rattle.asl_syntax.specs.declared.sign.Sign.TheVariants as s
use Rattle.asl_syntax.specs.declared.raw.Raw.TheVariants as raw
use Rattle.asl_syntax.specs.declared.subtree.Subtree.{Subtree}
use Rattle.asl_syntax.specs.declared.subtree.Subtrees.{Subtrees}
use Rattle.asl_syntax.specs.declared.frame.Frame.{Frame}
use Rattle.asl_syntax.specs.declared.frame.Frame.TheVariants as f
use Rattle.asl_parser.specs.declared.state.ParserState.{ParserState}
use Rattle.asl_parser.specs.declared.state.ParserState.TheVariants as st
use Rattle.asl_syntax.specs.declared.open.FrameKind.TheVariants as k
use Rattle.asl_syntax.specs.Grow.{leaf, item, joined, no_subtrees}
use Rattle.asl_syntax.specs.Frames.{depth}
use Rattle.asl_parser.specs.Machine.{Config, stop, walk, step, step_by, argument, first_argument, sequence, word, after, settle, listed}
use Rattle.asl_syntax.specs.Opens.{added, kind_of, done_of, around}
use Rattle.asl_parser.specs.Pairs.{plain_by, plain, IsArgument, AddsNode, PassesMarks}
use Rattle.asl_parser.specs.Steps.{is_args, is_body}

-- ---- one step

pub walk_once : (ok : ℕ → Bool) (x : Mark) (ms : List Mark) (a b : ParserState) (fs gs : List Frame) → ok (depth fs) ≡ true → step x a fs ≡ Some (b, gs) → walk ok (x ∷ ms) a fs ≡ walk ok ms b gs
unfolding walk
walk_once ok x ms a b fs gs low is = rw low (ap (λ (n : Option Config). elim n [ None ↦ stop (x ∷ ms) | Some c ↦ walk ok ms c.0 c.1 ]) is)

-- what was read last behind such a token
abbrev pub behind : Spot → Lexeme → ParserState
behind p (l.Word path w) = st.Word p w
behind p (l.Number n) = st.Whole (leaf p.token (raw.Number p.place n))
behind p (l.Text t) = st.Whole (leaf p.token (raw.Text p.place t))
behind p _ = st.Operand

-- ---- in arguments

argument_begins : (a : ParserState) (p : Spot) (x : Lexeme) (e : Subtree) (r : Spot) (w : List ℕ) (done : Subtrees) (fs : List Frame) → IsArgument a → plain_by p x ≡ Some e → step_by p x a (f.Args r w done ∷ fs) ≡ Some (behind p x, f.Args r w done ∷ fs)
unfolding argument first_argument
argument_begins st.FirstArgument p (l.Word path v) e r w done fs h is = refl
argument_begins st.FirstArgument p (l.Number n) e r w done fs h is = refl
argument_begins st.FirstArgument p (l.Text t) e r w done fs h is = refl
argument_begins st.FirstArgument p (l.Sign x) e r w done fs h is = absurd cc
argument_begins st.FirstArgument p l.Other e r w done fs h is = absurd cc
argument_begins st.Argument p (l.Word path v) e r w done fs h is = refl
argument_begins st.Argument p (l.Number n) e r w done fs h is = refl
argument_begins st.Argument p (l.Text t) e r w done fs h is = refl
argument_begins st.Argument p (l.Sign x) e r w done fs h is = absurd cc
argument_begins st.Argument p l.Other e r w done fs h is = absurd cc
argument_begins st.Operand p x e r w done fs h is = absurd h
argument_begins st.FirstElement p x e r w done fs h is = absurd h
argument_begins st.Element p x e r w done fs h is = absurd h
argument_begins st.Sequence p x e r w done fs h is = absurd h
argument_begins (st.Word q v) p x e r w done fs h is = absurd h
argument_begins (st.Called q v args) p x e r w done fs h is = absurd h
argument_begins (st.Whole t) p x e r w done fs h is = absurd h
argument_begins (st.Listed t) p x e r w done fs h is = absurd h

goes_by : (q : Spot) (p : Spot) (x : Lexeme) (e : Subtree) (r : Spot) (w : List ℕ) (done : Subtrees) (fs : List Frame) → plain_by p x ≡ Some e → step_by q (l.Sign s.Comma) (behind p x) (f.Args r w done ∷ fs) ≡ Some (st.Argument, f.Args r w (joined done e) ∷ fs)
unfolding word after settle listed
goes_by q p (l.Word path v) e r w done fs is = let same : item p v None None ≡ e = cc in ap (λ (b : Subtree). Some (st.Argument, f.Args r w (joined done b) ∷ fs)) same
goes_by q p (l.Number n) e r w done fs is = let same : leaf p.token (raw.Number p.place n) ≡ e = cc in ap (λ (b : Subtree). Some (st.Argument, f.Args r w (joined done b) ∷ fs)) same
goes_by q p (l.Text t) e r w done fs is = let same : leaf p.token (raw.Text p.place t) ≡ e = cc in ap (λ (b : Subtree). Some (st.Argument, f.Args r w (joined done b) ∷ fs)) same
goes_by q p (l.Sign x) e r w done fs is = absurd cc
goes_by q p l.Other e r w done fs is = absurd cc

ends_by : (q : Spot) (p : Spot) (x : Lexeme) (e : Subtree) (r : Spot) (w : List ℕ) (done : Subtrees) (fs : List Frame) → plain_by p x ≡ Some e → step_by q (l.Sign s.RightParen) (behind p x) (f.Args r w done ∷ fs) ≡ Some (st.Called r w (joined done e), fs)
unfolding word after settle listed
ends_by q p (l.Word path v) e r w done fs is = let same : item p v None None ≡ e = cc in ap (λ (b : Subtree). Some (st.Called r w (joined done b), fs)) same
ends_by q p (l.Number n) e r w done fs is = let same : leaf p.token (raw.Number p.place n) ≡ e = cc in ap (λ (b : Subtree). Some (st.Called r w (joined done b), fs)) same
ends_by q p (l.Text t) e r w done fs is = let same : leaf p.token (raw.Text p.place t) ≡ e = cc in ap (λ (b : Subtree). Some (st.Called r w (joined done b), fs)) same
ends_by q p (l.Sign x) e r w done fs is = absurd cc
ends_by q p l.Other e r w done fs is = absurd cc

goes : (u : Mark) (p : Spot) (x : Lexeme) (e : Subtree) (r : Spot) (w : List ℕ) (done : Subtrees) (fs : List Frame) → u.lexeme ≡ l.Sign s.Comma → plain_by p x ≡ Some e → step u (behind p x) (f.Args r w done ∷ fs) ≡ Some (st.Argument, f.Args r w (joined done e) ∷ fs)
goes u p x e r w done fs comma is = ap (λ (y : Lexeme). step_by u.spot y (behind p x) (f.Args r w done ∷ fs)) comma ∙ goes_by u.spot p x e r w done fs is

ends : (u : Mark) (p : Spot) (x : Lexeme) (e : Subtree) (r : Spot) (w : List ℕ) (done : Subtrees) (fs : List Frame) → u.lexeme ≡ l.Sign s.RightParen → plain_by p x ≡ Some e → step u (behind p x) (f.Args r w done ∷ fs) ≡ Some (st.Called r w (joined done e), fs)
ends u p x e r w done fs paren is = ap (λ (y : Lexeme). step_by u.spot y (behind p x) (f.Args r w done ∷ fs)) paren ∙ ends_by u.spot p x e r w done fs is

pub goes_over : (t u : Mark) (a : ParserState) (e : Subtree) (fs gs : List Frame) → IsArgument a → is_args (kind_of fs) ≡ true → u.lexeme ≡ l.Sign s.Comma → plain t ≡ Some e → gs ≡ added e fs → PassesMarks (t ∷ u ∷ []) (a, fs) (st.Argument, gs)
goes_over t u a e [] gs h args comma is new = absurd cc
goes_over t u a e (f.Unit done ∷ fs) gs h args comma is new = absurd cc
goes_over t u a e (f.Body r w inner done ∷ fs) gs h args comma is new = absurd cc
goes_over t u a e (f.Bracket ∷ fs) gs h args comma is new = absurd cc
goes_over t u a e (f.Index r left ∷ fs) gs h args comma is new = absurd cc
goes_over t u a e (f.Pending m n r i xs ∷ fs) gs h args comma is new = absurd cc
goes_over t u a e (f.List r done ∷ fs) gs h args comma is new = absurd cc
goes_over t u a e (f.Args r w done ∷ fs) gs h args comma is new =
    subst (λ (hs : List Frame). PassesMarks (t ∷ u ∷ []) (a, f.Args r w done ∷ fs) (st.Argument, hs)) (sym new) (
      omega arith,
      λ ok rest low. walk_once ok t (u ∷ rest) a (behind t.spot t.lexeme) (f.Args r w done ∷ fs) (f.Args r w done ∷ fs) low (argument_begins a t.spot t.lexeme e r w done fs h is)
          ∙ walk_once ok u rest (behind t.spot t.lexeme) st.Argument (f.Args r w done ∷ fs) (f.Args r w (joined done e) ∷ fs) low (goes u t.spot t.lexeme e r w done fs comma is),
    )

pub ends_over : (t u : Mark) (a : ParserState) (e : Subtree) (fs mid : List Frame) (v : Subtrees × List Frame) (p : Spot) (name : List ℕ) → IsArgument a → is_args (kind_of fs) ≡ true → u.lexeme ≡ l.Sign s.RightParen → plain t ≡ Some e → mid ≡ added e fs → kind_of mid ≡ k.Args p name
    → v ≡ (done_of mid, around mid) → PassesMarks (t ∷ u ∷ []) (a, fs) (st.Called p name v.0, v.1)
ends_over t u a e [] mid v p name h args paren is new kind v_is = absurd cc
ends_over t u a e (f.Unit done ∷ fs) mid v p name h args paren is new kind v_is = absurd cc
ends_over t u a e (f.Body r w inner done ∷ fs) mid v p name h args paren is new kind v_is = absurd cc
ends_over t u a e (f.Bracket ∷ fs) mid v p name h args paren is new kind v_is = absurd cc
ends_over t u a e (f.Index r left ∷ fs) mid v p name h args paren is new kind v_is = absurd cc
ends_over t u a e (f.Pending m n r i xs ∷ fs) mid v p name h args paren is new kind v_is = absurd cc
ends_over t u a e (f.List r done ∷ fs) mid v p name h args paren is new kind v_is = absurd cc
ends_over t u a e (f.Args r w done ∷ fs) mid v p name h args paren is new kind v_is =
    let kinds : k.Args r w ≡ k.Args p name = ap kind_of (sym new) ∙ kind in
    let place : r ≡ p = cc in
    let text : w ≡ name = cc in
    let now : v ≡ (joined done e, fs) = v_is ∙ ap (λ (hs : List Frame). (done_of hs, around hs)) new in
    let over : PassesMarks (t ∷ u ∷ []) (a, f.Args r w done ∷ fs) (st.Called r w (joined done e), fs) = (
      omega arith,
      λ ok rest low. walk_once ok t (u ∷ rest) a (behind t.spot t.lexeme) (f.Args r w done ∷ fs) (f.Args r w done ∷ fs) low (argument_begins a t.spot t.lexeme e r w done fs h is)
          ∙ walk_once ok u rest (behind t.spot t.lexeme) (st.Called r w (joined done e)) (f.Args r w done ∷ fs) fs low (ends u t.spot t.lexeme e r w done fs paren is),
    ) in
    let placed = subst (λ (q : Spot). PassesMarks (t ∷ u ∷ []) (a, f.Args r w done ∷ fs) (st.Called q w (joined done e), fs)) place over in
    let named = subst (λ (n : List ℕ). PassesMarks (t ∷ u ∷ []) (a, f.Args r w done ∷ fs) (st.Called p n (joined done e), fs)) text placed in
    subst (λ (z : Subtrees × List Frame). PassesMarks (t ∷ u ∷ []) (a, f.Args r w done ∷ fs) (st.Called p name z.0, z.1)) (sym now) named

-- ---- in a body

member_begins : (p : Spot) (x : Lexeme) (e : Subtree) (r : Spot) (w : List ℕ) (args : Option Subtrees) (done : Subtrees) (fs : List Frame) → plain_by p x ≡ Some e → step_by p x st.Sequence (f.Body r w args done ∷ fs) ≡ Some (behind p x, f.Body r w args done ∷ fs)
unfolding sequence
member_begins p (l.Word path v) e r w args done fs is = refl
member_begins p (l.Number n) e r w args done fs is = refl
member_begins p (l.Text t) e r w args done fs is = refl
member_begins p (l.Sign x) e r w args done fs is = absurd cc
member_begins p l.Other e r w args done fs is = absurd cc

member_goes_by : (q : Spot) (p : Spot) (x : Lexeme) (e : Subtree) (r : Spot) (w : List ℕ) (args : Option Subtrees) (done : Subtrees) (fs : List Frame) → plain_by p x ≡ Some e
    → step_by q (l.Sign s.Comma) (behind p x) (f.Body r w args done ∷ fs) ≡ Some (st.Sequence, f.Body r w args (joined (joined done e) (leaf q.token raw.Comma)) ∷ fs)
unfolding word after settle sequence
member_goes_by q p (l.Word path v) e r w args done fs is = let same : item p v None None ≡ e = cc in ap (λ (b : Subtree). Some (st.Sequence, f.Body r w args (joined (joined done b) (leaf q.token raw.Comma)) ∷ fs)) same
member_goes_by q p (l.Number n) e r w args done fs is = let same : leaf p.token (raw.Number p.place n) ≡ e = cc in ap (λ (b : Subtree). Some (st.Sequence, f.Body r w args (joined (joined done b) (leaf q.token raw.Comma)) ∷ fs)) same
member_goes_by q p (l.Text t) e r w args done fs is = let same : leaf p.token (raw.Text p.place t) ≡ e = cc in ap (λ (b : Subtree). Some (st.Sequence, f.Body r w args (joined (joined done b) (leaf q.token raw.Comma)) ∷ fs)) same
member_goes_by q p (l.Sign x) e r w args done fs is = absurd cc
member_goes_by q p l.Other e r w args done fs is = absurd cc

member_goes : (u : Mark) (p : Spot) (x : Lexeme) (e : Subtree) (r : Spot) (w : List ℕ) (args : Option Subtrees) (done : Subtrees) (fs : List Frame) → u.lexeme ≡ l.Sign s.Comma → plain_by p x ≡ Some e
    → step u (behind p x) (f.Body r w args done ∷ fs) ≡ Some (st.Sequence, f.Body r w args (joined (joined done e) (leaf u.spot.token raw.Comma)) ∷ fs)
member_goes u p x e r w args done fs comma is = ap (λ (y : Lexeme). step_by u.spot y (behind p x) (f.Body r w args done ∷ fs)) comma ∙ member_goes_by u.spot p x e r w args done fs is

member_over : (t u : Mark) (e : Subtree) (fs mid gs : List Frame) → is_body (kind_of fs) ≡ true → u.lexeme ≡ l.Sign s.Comma → plain t ≡ Some e → mid ≡ added e fs → gs ≡ added (leaf u.spot.token raw.Comma) mid → PassesMarks (t ∷ u ∷ []) (st.Sequence, fs) (st.Sequence, gs)
member_over t u e [] mid gs body comma is new last = absurd cc
member_over t u e (f.Unit done ∷ fs) mid gs body comma is new last = absurd cc
member_over t u e (f.Args r w done ∷ fs) mid gs body comma is new last = absurd cc
member_over t u e (f.Bracket ∷ fs) mid gs body comma is new last = absurd cc
member_over t u e (f.Index r left ∷ fs) mid gs body comma is new last = absurd cc
member_over t u e (f.Pending m n r i xs ∷ fs) mid gs body comma is new last = absurd cc
member_over t u e (f.List r done ∷ fs) mid gs body comma is new last = absurd cc
member_over t u e (f.Body r w args done ∷ fs) mid gs body comma is new last =
    let now : gs ≡ f.Body r w args (joined (joined done e) (leaf u.spot.token raw.Comma)) ∷ fs = last ∙ ap (added (leaf u.spot.token raw.Comma)) new in
    subst (λ (hs : List Frame). PassesMarks (t ∷ u ∷ []) (st.Sequence, f.Body r w args done ∷ fs) (st.Sequence, hs)) (sym now) (
      omega arith,
      λ ok rest low. walk_once ok t (u ∷ rest) st.Sequence (behind t.spot t.lexeme) (f.Body r w args done ∷ fs) (f.Body r w args done ∷ fs) low (member_begins t.spot t.lexeme e r w args done fs is)
          ∙ walk_once ok u rest (behind t.spot t.lexeme) st.Sequence (f.Body r w args done ∷ fs) (f.Body r w args (joined (joined done e) (leaf u.spot.token raw.Comma)) ∷ fs) low (member_goes u t.spot t.lexeme e r w args done fs comma is),
    )

-- ---- with the tree that was added

pub argument_goes_over : (t u : Mark) (a : ParserState) (m : Option Subtree) (old new : Subtrees × List Frame) → plain t ≡ m → AddsNode true m old new → IsArgument a → is_args (kind_of old.1) ≡ true → u.lexeme ≡ l.Sign s.Comma → PassesMarks (t ∷ u ∷ []) (a, old.1) (st.Argument, new.1)
argument_goes_over t u a (Some e) old new is adds h args comma = goes_over t u a e old.1 new.1 h args comma is (ap (λ (v : Subtrees × List Frame). v.1) adds)
argument_goes_over t u a None old new is adds h args comma = absurd adds

pub argument_ends_over : (t u : Mark) (a : ParserState) (m : Option Subtree) (old mid v : Subtrees × List Frame) (p : Spot) (name : List ℕ) → plain t ≡ m → AddsNode true m old mid → IsArgument a → is_args (kind_of old.1) ≡ true → u.lexeme ≡ l.Sign s.RightParen → kind_of mid.1 ≡ k.Args p name
    → v ≡ (done_of mid.1, around mid.1) → PassesMarks (t ∷ u ∷ []) (a, old.1) (st.Called p name v.0, v.1)
argument_ends_over t u a (Some e) old mid v p name is adds h args paren kind v_is = ends_over t u a e old.1 mid.1 v p name h args paren is (ap (λ (w : Subtrees × List Frame). w.1) adds) kind v_is
argument_ends_over t u a None old mid v p name is adds h args paren kind v_is = absurd adds

pub member_goes_over : (t u : Mark) (m : Option Subtree) (old mid new : Subtrees × List Frame) → plain t ≡ m → AddsNode true m old mid → is_body (kind_of old.1) ≡ true → u.lexeme ≡ l.Sign s.Comma → new ≡ (no_subtrees, added (leaf u.spot.token raw.Comma) mid.1) → PassesMarks (t ∷ u ∷ []) (st.Sequence, old.1) (st.Sequence, new.1)
member_goes_over t u (Some e) old mid new is adds body comma new_is = member_over t u e old.1 mid.1 new.1 body comma is (ap (λ (w : Subtrees × List Frame). w.1) adds) (ap (λ (w : Subtrees × List Frame). w.1) new_is)
member_goes_over t u None old mid new is adds body comma new_is = absurd adds

-- ---- what is open behind it

pub adds_none : (b : Bool) (m : Option Subtree) (old new : Subtrees × List Frame) → old.0 ≡ no_subtrees → AddsNode b m old new → new.0 ≡ no_subtrees
adds_none true (Some e) old new none adds = ap (λ (v : Subtrees × List Frame). v.0) adds
adds_none true None old new none adds = absurd adds
adds_none false m old new none adds = ap (λ (v : Subtrees × List Frame). v.0) adds ∙ none

added_kind : (e : Subtree) (fs : List Frame) → kind_of (added e fs) ≡ kind_of fs
added_kind e [] = refl
added_kind e (f.Unit done ∷ fs) = refl
added_kind e (f.Args r w done ∷ fs) = refl
added_kind e (f.Body r w args done ∷ fs) = refl
added_kind e (f.Bracket ∷ fs) = refl
added_kind e (f.Index r left ∷ fs) = refl
added_kind e (f.Pending m n r i xs ∷ fs) = refl
added_kind e (f.List r done ∷ fs) = refl

pub adds_kind : (m : Option Subtree) (old new : Subtrees × List Frame) → AddsNode true m old new → kind_of new.1 ≡ kind_of old.1
adds_kind (Some e) old new adds = ap (λ (v : Subtrees × List Frame). kind_of v.1) adds ∙ added_kind e old.1
adds_kind None old new adds = absurd adds
