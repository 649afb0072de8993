-- A call whose arguments are held before a frame is opened.
use Rattle.std.proofs.Common.{◌≡◌, ℕ, suc, ◌+◌, ◌<◌, ◌≤◌, length, drop, get_or, true, List, [], ◌∷◌, Option, Some, None, Result, Ok, Err, refl, sym, ap, ◌∙◌, subst, arith}
use Rattle.asl_lexer.specs.declared.token.Token.{Token}
use Rattle.asl_syntax.specs.declared.mark.Spot.{Spot}
use Rattle.asl_syntax.specs.declared.mark.Lexeme.{Lexeme}
use Rattle.asl_syntax.specs.declared.mark.Lexeme.TheVariants as l
use Rattle.asl_syntax.specs.declared.mark.Mark.{Mark}
use Rattle.asl_syntax.specs.declared.sign.Sign.TheVariants as s
use Rattle.asl_syntax.specs.declared.subtree.Subtree.{Subtree}
use Rattle.asl_syntax.specs.declared.subtree.Subtrees.{Subtrees}
use Rattle.asl_syntax.specs.declared.frame.Frame.{Frame}
use Rattle.asl_syntax.specs.declared.frame.Frame.TheVariants as f
use Rattle.asl_parser.specs.declared.state.ParserState.TheVariants as st
use Rattle.asl_parser.specs.declared.reader.Syntax.{Syntax}
use Rattle.asl_parser.specs.declared.calls.Arguments.{Arguments}
use Rattle.asl_parser.specs.declared.calls.Arguments.TheVariants as a
use Rattle.asl_parser.specs.declared.stage.Stage.{Stage}
use Rattle.std.specs.Prelude.{IfOk, IfErr}
use Rattle.asl_parser.specs.Calls.{calling, may_go_on, stage_of, SignIs, HoldsArgument, Reads}
use Rattle.asl_parser.specs.Stages.{state_of, Holds}
use Rattle.asl_syntax.specs.Grow.{joined, no_subtrees, limit}
use Rattle.asl_syntax.specs.Frames.{depth}
use Rattle.asl_parser.specs.Machine.{Config, walk, within, step_by, word}
use Rattle.asl_syntax.specs.Marks.{mark, marks, lexeme}
use Rattle.asl_parser.specs.Pairs.{plain, HoldsNode, PassesMarks}
use Rattle.asl_parser.specs.Parse.{EndsIn}
use Rattle.asl_parser.specs.Reading.{Advances, FailsAt, Comes, Passes}
use Rattle.asl_parser.proofs.Onward.{pair_on}
use Rattle.asl_parser.proofs.Skipped.{goes_over, ends_over}
use Rattle.asl_parser.proofs.Walks.{length-marks, walk_moves}

-- ---- an argument and the token behind it

goes_so : (t u : Mark) (e : Subtree) (old new : Subtrees × List Frame) (p : Spot) (w : List ℕ) (before : Arguments) → plain t ≡ Some e → new ≡ (joined old.0 e, old.1) → u.lexeme ≡ l.Sign s.Comma → may_go_on before ≡ true
    → PassesMarks (t ∷ u ∷ []) (calling before p w old) (calling a.Open p w new)
goes_so t u e old new p w a.Unread is holds comma go =
    goes_over t u st.FirstArgument e (f.Args p w old.0 ∷ old.1) (f.Args p w new.0 ∷ new.1) tt refl comma is (ap (λ (v : Subtrees × List Frame). f.Args p w v.0 ∷ v.1) holds)
goes_so t u e old new p w a.Open is holds comma go =
    goes_over t u st.Argument e (f.Args p w old.0 ∷ old.1) (f.Args p w new.0 ∷ new.1) tt refl comma is (ap (λ (v : Subtrees × List Frame). f.Args p w v.0 ∷ v.1) holds)
goes_so t u e old new p w a.Closed is holds comma go = absurd cc

ends_so : (t u : Mark) (e : Subtree) (old new : Subtrees × List Frame) (p : Spot) (w : List ℕ) (before : Arguments) → plain t ≡ Some e → new ≡ (joined old.0 e, old.1) → u.lexeme ≡ l.Sign s.RightParen → may_go_on before ≡ true
    → PassesMarks (t ∷ u ∷ []) (calling before p w old) (calling a.Closed p w new)
ends_so t u e old new p w a.Unread is holds paren go =
    ends_over t u st.FirstArgument e (f.Args p w old.0 ∷ old.1) (f.Args p w (joined old.0 e) ∷ old.1) new p w tt refl paren is refl refl holds
ends_so t u e old new p w a.Open is holds paren go =
    ends_over t u st.Argument e (f.Args p w old.0 ∷ old.1) (f.Args p w (joined old.0 e) ∷ old.1) new p w tt refl paren is refl refl holds
ends_so t u e old new p w a.Closed is holds paren go = absurd cc

pub argument_held : (read : Arguments) (t u : Mark) (m : Option Subtree) (old new : Subtrees × List Frame) → plain t ≡ m → HoldsNode true m old new → SignIs read u.lexeme → (read ≡ a.Unread → ⊥) → HoldsArgument read (t ∷ u ∷ []) old new
argument_held read t u None old new is holds sign some = absurd holds
argument_held a.Unread t u (Some e) old new is holds sign some = absurd (some refl)
argument_held a.Open t u (Some e) old new is holds sign some = λ p w before go. goes_so t u e old new p w before is holds sign go
argument_held a.Closed t u (Some e) old new is holds sign some = λ p w before go. ends_so t u e old new p w before is holds sign go

-- ---- arguments

pub unread_on : (read : Arguments) (ms : List Mark) (old new : Subtrees × List Frame) → read ≡ a.Unread → HoldsArgument read ms old new → new ≡ old
unread_on a.Unread ms old new is holds = holds
unread_on a.Open ms old new is holds = absurd cc
unread_on a.Closed ms old new is holds = absurd cc

pub reads_none : (ts : List Token) (from : ℕ) (v : Subtrees × List Frame) → from ≤ length ts → depth v.1 < limit → Reads (marks 0 ts) from from a.Unread v v
reads_none ts from v h low = λ p w. (omega arith, omega (arith, length-marks 0 ts, h), omega (arith, low), refl)

pub reads_on : (ts : List Token) (from i : ℕ) (t u : Token) (before read : Arguments) (old mid new : Subtrees × List Frame) → i + 1 < length ts → t ≡ get_or ts i t → u ≡ get_or ts (i + 1) u → may_go_on before ≡ true → Reads (marks 0 ts) from i before old mid
    → ((p : Spot) (w : List ℕ) (b : Arguments) → may_go_on b ≡ true → PassesMarks (mark i t ∷ mark (suc i) u ∷ []) (calling b p w mid) (calling read p w new)) → Reads (marks 0 ts) from (i + 2) read old new
reads_on ts from i t u before read old mid new h at next go reads holds = λ p w.
    let so = reads p w in
    let on = pair_on ts i t u true (calling before p w mid) (calling read p w new) h at next refl so.2 (holds p w before go) in
    (omega (arith, so.0), on.1, on.2, so.3 ∙ on.3)

-- ---- a call

opens_by : (q p : Spot) (w : List ℕ) (fs : List Frame) → step_by q (l.Sign s.LeftParen) (st.Word p w) fs ≡ Some (st.FirstArgument, f.Args p w no_subtrees ∷ fs)
unfolding word
opens_by q p w fs = refl

pub call_on : (ts : List Token) (i from next : ℕ) (u : Token) (p : Spot) (w : List ℕ) (fs : List Frame) (now : Config) → i < length ts → u ≡ get_or ts i u → lexeme u ≡ l.Sign s.LeftParen → depth fs ≤ limit → from ≡ suc i
    → Passes (marks 0 ts) from next (st.FirstArgument, f.Args p w no_subtrees ∷ fs) now → Advances (marks 0 ts) i next (st.Word p w, fs) now
call_on ts i from next u p w fs now h at paren low last over =
    let opens = ap (λ (x : Lexeme). step_by (mark i u).spot x (st.Word p w) fs) paren ∙ opens_by (mark i u).spot p w fs in (
      omega (arith, last, over.0),
      over.1,
      over.2,
      walk_moves limit ts i u (mark i u) (st.Word p w) st.FirstArgument fs (f.Args p w no_subtrees ∷ fs) h at refl low opens
          ∙ ap (λ (n : ℕ). walk (within limit) (drop n (marks 0 ts)) st.FirstArgument (f.Args p w no_subtrees ∷ fs)) (sym last) ∙ over.3,
    )

pub closed_over : (all : List Mark) (from next : ℕ) (read : Arguments) (old new : Subtrees × List Frame) (p : Spot) (w name : List ℕ) → Reads all from next read old new → read ≡ a.Closed → old.0 ≡ no_subtrees → name ≡ w
    → Passes all from next (st.FirstArgument, f.Args p w no_subtrees ∷ old.1) (st.Called p name new.0, new.1)
closed_over all from next read old new p w name reads is none same =
    let closed = subst (λ (x : Arguments). Reads all from next x old new) is reads in
    let begun = subst (λ (t : Subtrees). Passes all from next (st.FirstArgument, f.Args p w t ∷ old.1) (st.Called p w new.0, new.1)) none (closed p w) in
    subst (λ (v : List ℕ). Passes all from next (st.FirstArgument, f.Args p w no_subtrees ∷ old.1) (st.Called p v new.0, new.1)) (sym same) begun

calling_open : (read : Arguments) (p : Spot) (w : List ℕ) (hand : Subtrees) (v : Subtrees × List Frame) → (read ≡ a.Closed → ⊥) → calling read p w v ≡ (state_of (stage_of read) hand, f.Args p w v.0 ∷ v.1)
calling_open a.Unread p w hand v unended = refl
calling_open a.Open p w hand v unended = refl
calling_open a.Closed p w hand v unended = absurd (unended refl)

pub open_over : (all : List Mark) (from next : ℕ) (read : Arguments) (old new last : Subtrees × List Frame) (p : Spot) (w name : List ℕ) (stage : Stage) → Reads all from next read old new → (read ≡ a.Closed → ⊥) → old.0 ≡ no_subtrees → name ≡ w → stage ≡ stage_of read
    → last ≡ (no_subtrees, f.Args p name new.0 ∷ new.1) → Passes all from next (st.FirstArgument, f.Args p w no_subtrees ∷ old.1) (state_of stage last.0, last.1)
open_over all from next read old new last p w name stage reads unended none same stage_is last_is =
    let begun = subst (λ (t : Subtrees). Passes all from next (st.FirstArgument, f.Args p w t ∷ old.1) (calling read p w new)) none (reads p w) in
    let here : Passes all from next (st.FirstArgument, f.Args p w no_subtrees ∷ old.1) (state_of (stage_of read) last.0, f.Args p w new.0 ∷ new.1)
    = subst (Passes all from next (st.FirstArgument, f.Args p w no_subtrees ∷ old.1)) (calling_open read p w last.0 new unended) begun in
    let named = subst (λ (v : List ℕ). Passes all from next (st.FirstArgument, f.Args p w no_subtrees ∷ old.1) (state_of (stage_of read) last.0, f.Args p v new.0 ∷ new.1)) (sym same) here in
    let staged = subst (λ (x : Stage). Passes all from next (st.FirstArgument, f.Args p w no_subtrees ∷ old.1) (state_of x last.0, f.Args p name new.0 ∷ new.1)) (sym stage_is) named in
    subst (λ (fs : List Frame). Passes all from next (st.FirstArgument, f.Args p w no_subtrees ∷ old.1) (state_of stage last.0, fs)) (sym (ap (λ (u : Subtrees × List Frame). u.1) last_is)) staged

pub open_holds : (read : Arguments) (stage : Stage) (hand : Subtrees) → stage ≡ stage_of read → hand ≡ no_subtrees → Holds stage hand
open_holds read stage hand is none = subst (λ (x : Stage). Holds x hand) (sym is) (opened read) where
  opened : (r : Arguments) → Holds (stage_of r) hand
  opened a.Unread = none
  opened a.Open = none
  opened a.Closed = none

-- ---- from one place to the next

comes_advances : (all : List Mark) (i j next : ℕ) (before mid now : Config) → Comes all i j before mid → Advances all j next mid now → Advances all i next before now
comes_advances all i j next before mid now comes on = (omega (arith, comes.0, on.0), on.1, on.2, comes.3 ∙ on.3)

comes_fails : (fault : Syntax) (all : List Mark) (i j : ℕ) (before mid : Config) → Comes all i j before mid → FailsAt fault all j mid → FailsAt fault all i before
comes_fails fault all i j before mid comes fails = subst (EndsIn (Err fault) all) (sym comes.3) fails

pub advances_behind : (all : List Mark) (i j : ℕ) (before mid now : Config) (answer : Result ℕ Syntax) → Comes all i j before mid → IfOk answer (λ next. Advances all j next mid now) → IfOk answer (λ next. Advances all i next before now)
advances_behind all i j before mid now (Ok next) comes on = comes_advances all i j next before mid now comes on
advances_behind all i j before mid now (Err fault) comes on = tt

pub fails_behind : (all : List Mark) (i j : ℕ) (before mid : Config) (answer : Result ℕ Syntax) → Comes all i j before mid → IfErr answer (λ fault. FailsAt fault all j mid) → IfErr answer (λ fault. FailsAt fault all i before)
fails_behind all i j before mid (Ok next) comes fails = tt
fails_behind all i j before mid (Err fault) comes fails = comes_fails fault all i j before mid comes fails
