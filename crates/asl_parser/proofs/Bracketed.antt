-- An operator between two operands in parentheses, all of which are read at once.
use Rattle.std.proofs.Common.{◌≡◌, ℕ, suc, ◌+◌, ◌<◌, ◌≤◌, length, drop, get_or, Bool, true, false, List, [], ◌∷◌, Option, Some, None, refl, sym, ap, ◌∙◌, subst, arith}
use Rattle.std.proofs.lemmas.Bool.{le-leb}
use Rattle.asl_lexer.specs.declared.token.Token.{Token}
use Rattle.asl_syntax.specs.declared.mark.Spot.{Spot}
use Rattle.asl_syntax.specs.declared.mark.Lexeme.{Lexeme}
use Rattle.asl_syntax.specs.declared.mark.Lexeme.TheVariants as l
use Rattle.asl_syntax.specs.declared.mark.Mark.{Mark}
use Rattle.asl_syntax.specs.declared.raw.Infix.{Infix}
use Rattle.asl_syntax.specs.declared.raw.Raw.{Raw}
use Rattle.asl_syntax.specs.declared.sign.Sign.TheVariants as s
use Rattle.asl_syntax.specs.declared.sign.Strength.{Strength}
use Rattle.asl_syntax.specs.declared.subtree.Subtree.{Subtree}
use Rattle.asl_syntax.specs.declared.subtree.Subtrees.{Subtrees}
use Rattle.asl_syntax.specs.declared.frame.Frame.{Frame}
use Rattle.asl_syntax.specs.declared.frame.Frame.TheVariants as f
use Rattle.asl_parser.specs.declared.state.ParserState.{ParserState}
use Rattle.asl_parser.specs.declared.state.ParserState.TheVariants as st
use Rattle.asl_parser.specs.declared.stage.Stage.{Stage}
use Rattle.asl_parser.specs.declared.stage.Stage.TheVariants as g
use Rattle.asl_syntax.specs.Grow.{limit, no_subtrees, join, joined}
use Rattle.asl_syntax.specs.Frames.{depth, room}
use Rattle.asl_parser.specs.Machine.{walk, within, step, step_by, begin, argument, first_argument, sequence, after, settle}
use Rattle.asl_syntax.specs.Marks.{mark, marks, lexeme}
use Rattle.asl_syntax.specs.Opens.{IsOne, tree_of, first_raw, single}
use Rattle.asl_parser.specs.Operating.{applies, pulls, AppliesNode, MayBegin, MayBracket}
use Rattle.asl_parser.specs.Pairs.{plain_by, plain, HoldsNode}
use Rattle.asl_parser.specs.Reading.{Advances}
use Rattle.asl_syntax.specs.Signs.{strength}
use Rattle.asl_parser.specs.Stages.{state_of, begins}
use Rattle.asl_parser.proofs.Complete.{is_strength}
use Rattle.asl_parser.proofs.Operating.{operand_next, operated, place_next, walk_same}
use Rattle.asl_parser.proofs.Settled.{joined_alone}
use Rattle.asl_parser.proofs.Skipped.{behind, walk_once}
use Rattle.asl_parser.proofs.Walks.{length-marks}

-- ---- the parentheses

opens_by : (a : ParserState) (q : Spot) (fs : List Frame) → MayBegin a → 1 ≤ room fs → step_by q (l.Sign s.LeftParen) a fs ≡ Some (st.Operand, f.Bracket ∷ fs)
unfolding begin argument first_argument sequence
opens_by st.Operand q fs h high = rw (le-leb 1 (room fs) high) refl
opens_by st.FirstArgument q fs h high = rw (le-leb 1 (room fs) high) refl
opens_by st.Argument q fs h high = rw (le-leb 1 (room fs) high) refl
opens_by st.Sequence q fs h high = rw (le-leb 1 (room fs) high) refl
opens_by st.FirstElement q fs h high = absurd h
opens_by st.Element q fs h high = absurd h
opens_by (st.Word p w) q fs h high = absurd h
opens_by (st.Called p w args) q fs h high = absurd h
opens_by (st.Whole e) q fs h high = absurd h
opens_by (st.Listed e) q fs h high = absurd h

opens : (a : ParserState) (t : Mark) (fs : List Frame) → MayBegin a → 1 ≤ room fs → t.lexeme ≡ l.Sign s.LeftParen → step t a fs ≡ Some (st.Operand, f.Bracket ∷ fs)
opens a t fs h high paren = ap (λ (x : Lexeme). step_by t.spot x a fs) paren ∙ opens_by a t.spot fs h high

closes_by : (q : Spot) (e : Subtree) (fs : List Frame) → step_by q (l.Sign s.RightParen) (st.Whole e) (f.Bracket ∷ fs) ≡ Some (st.Whole e, fs)
unfolding after settle
closes_by q e fs = refl

closes : (t : Mark) (e : Subtree) (fs : List Frame) → t.lexeme ≡ l.Sign s.RightParen → step t (st.Whole e) (f.Bracket ∷ fs) ≡ Some (st.Whole e, fs)
closes t e fs paren = ap (λ (x : Lexeme). step_by t.spot x (st.Whole e) (f.Bracket ∷ fs)) paren ∙ closes_by t.spot e fs

-- ---- the first operand

operand_in : (p : Spot) (x : Lexeme) (e : Subtree) (fs : List Frame) → plain_by p x ≡ Some e → step_by p x st.Operand (f.Bracket ∷ fs) ≡ Some (behind p x, f.Bracket ∷ fs)
unfolding begin
operand_in p (l.Word path w) e fs is = refl
operand_in p (l.Number n) e fs is = refl
operand_in p (l.Text t) e fs is = refl
operand_in p (l.Sign x) e fs is = absurd cc
operand_in p l.Other e fs is = absurd cc

sign_applies : (i : Infix) (o : Strength) → strength i ≡ Some o → applies 0 (l.Sign (s.Binary i)) ≡ true
sign_applies i o strong = ap (pulls 0) strong ∙ le-leb 0 o.pull (omega arith)

behind_same : (v u : Mark) (e : Subtree) (i : Infix) (o : Strength) (fs : List Frame) → plain u ≡ Some e → v.lexeme ≡ l.Sign (s.Binary i) → strength i ≡ Some o → step v (behind u.spot u.lexeme) fs ≡ step v (st.Whole e) fs
unfolding after
behind_same v u e i o fs is sign strong = operand_next v.spot u.spot v.lexeme u.lexeme e 0 fs is (ap (applies 0) sign ∙ sign_applies i o strong)

first_same : (r : Option Raw) → first_raw (join (Some []) r) ≡ r
first_same None = refl
first_same (Some x) = refl

tree_single : (e : Subtree) → tree_of (single e) ≡ e
tree_single e = ap (λ (r : Option Raw). record { raw = r; levels = e.levels }) (first_same e.raw)

held_tree : (e : Subtree) (v : Subtrees) → v ≡ joined no_subtrees e → tree_of v ≡ e
held_tree e v is = ap tree_of (is ∙ joined_alone e) ∙ tree_single e

one_alone : (e : Subtree) (r : Option Raw) → e.raw ≡ r → IsOne (single e)
one_alone e None is = rw is refl
one_alone e (Some x) is = rw is refl

pub applies_one : (m : Option Subtree) (p : Spot) (i : Infix) (old new : Subtrees × List Frame) → AppliesNode m p i old new → IsOne new.0
applies_one None p i old new is = absurd is
applies_one (Some e) p i old new is = is.0

pub held_one : (b : Bool) (m : Option Subtree) (old mid : Subtrees × List Frame) → b ≡ true → old.0 ≡ no_subtrees → HoldsNode b m old mid → IsOne mid.0
held_one false m old mid is none holds = absurd cc
held_one true None old mid is none holds = absurd holds
held_one true (Some e) old mid is none holds =
    let alone : mid.0 ≡ single e = ap (λ (v : Subtrees × List Frame). v.0) holds ∙ ap (λ (t : Subtrees). joined t e) none ∙ joined_alone e in
    subst (λ (t : Subtrees). IsOne t) (sym alone) (one_alone e e.raw refl)

-- ---- all five

settles_not : (pull : ℕ) (e : Subtree) (fs : List Frame) → settle pull e (f.Bracket ∷ fs) ≡ (e, f.Bracket ∷ fs)
unfolding settle
settles_not pull e fs = refl

pub bracketed : (t u v w x : Mark) (rest : List Mark) (a : ParserState) (m n : Option Subtree) (i : Infix) (o : Strength) (old mid new : Subtrees × List Frame) → suc (depth old.1) < limit → 1 ≤ room old.1 → old.0 ≡ no_subtrees → t.lexeme ≡ l.Sign s.LeftParen → plain u ≡ m
    → HoldsNode true m old mid → v.lexeme ≡ l.Sign (s.Binary i) → strength i ≡ Some o → plain w ≡ n → AppliesNode n v.spot i mid new → x.lexeme ≡ l.Sign s.RightParen → IsOne mid.0 → MayBegin a
    → (new.1 ≡ old.1) × (walk (within limit) (t ∷ u ∷ v ∷ w ∷ x ∷ rest) a old.1 ≡ walk (within limit) rest (st.Whole (tree_of new.0)) new.1)
bracketed t u v w x rest a None n i o old mid new low high none paren is holds sign strong last made end one may = absurd holds
bracketed t u v w x rest a (Some e) None i o old mid new low high none paren is holds sign strong last made end one may = absurd made
bracketed t u v w x rest a (Some e) (Some b) i o old mid new low high none paren is holds sign strong last made end one may =
    let frames : mid.1 ≡ old.1 = ap (λ (z : Subtrees × List Frame). z.1) holds in
    let same : new.1 ≡ old.1 = made.2 ∙ frames in
    let first : tree_of mid.0 ≡ e = held_tree e mid.0 (ap (λ (z : Subtrees × List Frame). z.0) holds ∙ ap (λ (t : Subtrees). joined t e) none) in
    let inner : List Frame = f.Bracket ∷ old.1 in
    let so = is_strength i o strong in
    let low_in : depth inner < limit = omega (arith, low) in
    let over = operated v w x (Some b) i o (mid.0, inner) (mid.0, inner) (new.0, inner) low_in sign strong (ap (applies o.level) end) one (sym (settles_not o.pull (tree_of mid.0) old.1)) (omega (arith, so.high)) last (made.0, made.1, refl) in (
      same,
      walk_once (within limit) t (u ∷ v ∷ w ∷ x ∷ rest) a st.Operand old.1 inner (le-leb (depth old.1) limit (omega (arith, low))) (opens a t old.1 may high paren)
          ∙ walk_once (within limit) u (v ∷ w ∷ x ∷ rest) st.Operand (behind u.spot u.lexeme) inner inner (le-leb (depth inner) limit (omega (arith, low_in))) (operand_in u.spot u.lexeme e old.1 is)
          ∙ walk_same v (w ∷ x ∷ rest) (behind u.spot u.lexeme) (st.Whole e) inner inner (omega (arith, low_in)) (omega (arith, low_in)) (behind_same v u e i o inner is sign strong)
          ∙ ap (λ (z : Subtree). walk (within limit) (v ∷ w ∷ x ∷ rest) (st.Whole z) inner) (sym first)
          ∙ over.1.1 rest
          ∙ walk_once (within limit) x rest (st.Whole (tree_of new.0)) (st.Whole (tree_of new.0)) inner old.1 (le-leb (depth inner) limit (omega (arith, low_in))) (closes x (tree_of new.0) old.1 end)
          ∙ ap (λ (fs : List Frame). walk (within limit) rest (st.Whole (tree_of new.0)) fs) (sym same),
    )

-- ---- as tokens

pub bracket_on : (ts : List Token) (i : ℕ) (t u v w x : Token) (a : ParserState) (op : Infix) (o : Strength) (old mid new : Subtrees × List Frame) → i + 4 < length ts → t ≡ get_or ts i t → u ≡ get_or ts (i + 1) u → v ≡ get_or ts (i + 2) v → w ≡ get_or ts (i + 3) w → x ≡ get_or ts (i + 4) x
    → suc (depth old.1) < limit → 1 ≤ room old.1 → old.0 ≡ no_subtrees → lexeme t ≡ l.Sign s.LeftParen → HoldsNode true (plain (mark (i + 1) u)) old mid → lexeme v ≡ l.Sign (s.Binary op) → strength op ≡ Some o
    → AppliesNode (plain (mark (i + 3) w)) (mark (i + 2) v).spot op mid new → lexeme x ≡ l.Sign s.RightParen → IsOne mid.0 → MayBegin a → Advances (marks 0 ts) i (i + 5) (a, old.1) (st.Whole (tree_of new.0), new.1)
bracket_on ts i t u v w x a op o old mid new h at_t at_u at_v at_w at_x low high none paren holds sign strong made end one may =
    let all = marks 0 ts in
    let over = bracketed (mark i t) (mark (i + 1) u) (mark (i + 2) v) (mark (i + 3) w) (mark (i + 4) x) (drop (i + 5) all) a (plain (mark (i + 1) u)) (plain (mark (i + 3) w)) op o old mid new low high none paren refl holds sign strong refl made end one may in
    let e : drop i all ≡ mark i t ∷ mark (i + 1) u ∷ mark (i + 2) v ∷ mark (i + 3) w ∷ mark (i + 4) x ∷ drop (i + 5) all
    = place_next ts i (i + 1) t (omega (arith, h)) at_t (omega arith) ∙ ap (λ (ms : List Mark). mark i t ∷ ms)
    (place_next ts (i + 1) (i + 2) u (omega (arith, h)) at_u (omega arith) ∙ ap (λ (ms : List Mark). mark (i + 1) u ∷ ms)
    (place_next ts (i + 2) (i + 3) v (omega (arith, h)) at_v (omega arith) ∙ ap (λ (ms : List Mark). mark (i + 2) v ∷ ms)
    (place_next ts (i + 3) (i + 4) w (omega (arith, h)) at_w (omega arith) ∙ ap (λ (ms : List Mark). mark (i + 3) w ∷ ms)
    (place_next ts (i + 4) (i + 5) x (omega (arith, h)) at_x (omega arith))))) in (
      omega arith,
      omega (arith, length-marks 0 ts, h),
      omega (arith, low, ap depth over.0),
      ap (λ (ms : List Mark). walk (within limit) ms a old.1) e ∙ over.1,
    )

pub bracket_read : (b : Bool) (all : List Mark) (at : ℕ) (old new : Subtrees × List Frame) → b ≡ true → MayBracket b all at old new → MayBracket true all at old new
bracket_read true all at old new is holds = holds
bracket_read false all at old new is holds = absurd cc

pub bracket_unread : (b : Bool) (all : List Mark) (at : ℕ) (old new : Subtrees × List Frame) → b ≡ false → MayBracket b all at old new → new ≡ old
bracket_unread true all at old new is holds = absurd cc
bracket_unread false all at old new is holds = holds

pub may_begin : (stage : Stage) (hand : Subtrees) → begins stage ≡ true → MayBegin (state_of stage hand)
may_begin g.Operand hand is = tt
may_begin g.FirstArgument hand is = tt
may_begin g.Argument hand is = tt
may_begin g.Sequence hand is = tt
may_begin g.FirstElement hand is = absurd cc
may_begin g.Element hand is = absurd cc
may_begin (g.Word q w) hand is = absurd cc
may_begin (g.Called q w) hand is = absurd cc
may_begin g.Whole hand is = absurd cc
may_begin g.Listed hand is = absurd cc
