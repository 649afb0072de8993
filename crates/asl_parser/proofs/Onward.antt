-- On from a token, or from two of them.
use Rattle.std.proofs.Common.{◌≡◌, ℕ, suc, ◌+◌, ◌<◌, ◌≤◌, length, drop, get_or, Bool, true, false, List, [], ◌∷◌, Option, Some, Result, Ok, Err, refl, sym, ap, ◌∙◌, subst, arith}
use Rattle.std.specs.Prelude.{IfOk, IfErr, OnOk}
use Rattle.std.proofs.lemmas.Bool.{le-leb}
use Rattle.asl_lexer.specs.declared.token.Token.{Token}
use Rattle.asl_lexer.specs.declared.token.TokenKind.{TokenKind}
use Rattle.asl_lexer.specs.declared.token.TokenKind.TheVariants as t
use Rattle.asl_syntax.specs.declared.mark.Spot.{Spot}
use Rattle.asl_syntax.specs.declared.mark.Lexeme.TheVariants as l
use Rattle.asl_syntax.specs.declared.mark.Mark.{Mark}
use Rattle.asl_syntax.specs.declared.subtree.Subtrees.{Subtrees}
use Rattle.asl_syntax.specs.declared.frame.Frame.{Frame}
use Rattle.asl_parser.specs.declared.state.Refusal.{Refusal}
use Rattle.asl_parser.specs.declared.state.Refusal.TheVariants as r
use Rattle.asl_parser.specs.declared.state.ParserState.TheVariants as st
use Rattle.asl_parser.specs.declared.reader.Syntax.{Syntax}
use Rattle.asl_parser.specs.declared.reader.Syntax.TheVariants as y
use Rattle.asl_parser.specs.declared.stage.Stage.{Stage}
use Rattle.asl_parser.specs.declared.stage.Stage.TheVariants as g
use Rattle.asl_syntax.specs.Grow.{no_subtrees, limit}
use Rattle.asl_syntax.specs.Frames.{depth}
use Rattle.asl_parser.specs.Machine.{Config, stop, deep, walk, within, step, step_by, begin, argument, first_argument, sequence}
use Rattle.asl_syntax.specs.Marks.{mark, marks, is_word, lexeme_by}
use Rattle.asl_parser.specs.Pairs.{MayPass}
use Rattle.asl_parser.specs.Reading.{Advances, FailsAt, Comes, ComesTo}
use Rattle.asl_parser.specs.Stages.{state_of, Holds, StepsTo, begins}
use Rattle.asl_parser.proofs.Walks.{length-marks, at_place, walk_moves, walk_refused, walk_sinks}

-- ---- two tokens that were read at once

pub pair_on : (ts : List Token) (i : ℕ) (t u : Token) (b : Bool) (before now : Config) → i + 1 < length ts → t ≡ get_or ts i t → u ≡ get_or ts (i + 1) u → b ≡ true → depth before.1 ≤ limit → MayPass b (mark i t ∷ mark (suc i) u ∷ []) before now → Advances (marks 0 ts) i (i + 2) before now
pair_on ts i t u false before now h at next is low over = absurd cc
pair_on ts i t u true before now h at next is low over =
    let same : i + 1 ≡ suc i = omega arith in
    let last : suc (suc i) ≡ i + 2 = omega arith in
    let behind_it : drop (suc i) (marks 0 ts) ≡ mark (suc i) u ∷ drop (suc (suc i)) (marks 0 ts) = at_place ts (suc i) u (omega (arith, h)) (subst (λ (n : ℕ). u ≡ get_or ts n u) same next) in
    let e : drop i (marks 0 ts) ≡ mark i t ∷ mark (suc i) u ∷ drop (i + 2) (marks 0 ts)
    = at_place ts i t (omega (arith, h)) at ∙ ap (λ (ms : List Mark). mark i t ∷ ms) behind_it ∙ ap (λ (n : ℕ). mark i t ∷ mark (suc i) u ∷ drop n (marks 0 ts)) last in (
      omega arith,
      omega (arith, length-marks 0 ts, h),
      omega (arith, over.0, low),
      ap (λ (ms : List Mark). walk (within limit) ms before.0 before.1) e ∙ over.1 (within limit) (drop (i + 2) (marks 0 ts)) (le-leb (depth before.1) limit low),
    )

pub unread : (b : Bool) (ms : List Mark) (before mid : Config) → b ≡ false → MayPass b ms before mid → mid ≡ before
unread true ms before mid is over = absurd cc
unread false ms before mid is over = over

-- ---- to a token

low_as : (before mid : Config) → mid ≡ before → depth before.1 ≤ limit → depth mid.1 ≤ limit
low_as before mid same low = subst (λ (c : Config). depth c.1 ≤ limit) (sym same) low

pub comes_here : (ts : List Token) (i : ℕ) (before : Config) → i < length ts → depth before.1 ≤ limit → Comes (marks 0 ts) i i before before
comes_here ts i before h low = (omega arith, omega (arith, length-marks 0 ts, h), low, refl)

pub comes_on : (ts : List Token) (i : ℕ) (t : Token) (before mid now : Config) → i + 1 < length ts → t ≡ get_or ts i t → mid ≡ before → depth before.1 ≤ limit → step (mark i t) mid.0 mid.1 ≡ Some now → depth now.1 ≤ depth mid.1 → Comes (marks 0 ts) i (i + 1) before now
comes_on ts i t before mid now h at same low moved level =
    let last : suc i ≡ i + 1 = omega arith in
    let low_here = low_as before mid same low in (
      omega arith,
      omega (arith, length-marks 0 ts, h),
      omega (arith, level, low_here),
      ap (λ (c : Config). walk (within limit) (drop i (marks 0 ts)) c.0 c.1) (sym same)
          ∙ walk_moves limit ts i t (mark i t) mid.0 now.0 mid.1 now.1 (omega (arith, h)) at refl low_here moved
          ∙ ap (λ (n : ℕ). walk (within limit) (drop n (marks 0 ts)) now.0 now.1) last,
    )

-- what was told of the reading from a place on holds from the same place
pub advances_as : (all : List Mark) (i next : ℕ) (before mid now : Config) → mid ≡ before → Advances all i next mid now → Advances all i next before now
advances_as all i next before mid now same on = subst (λ (c : Config). Advances all i next c now) same on

-- ---- over a token

pub on_advances : (ts : List Token) (i j : ℕ) (t : Token) (made : Result (Unit {0}) Refusal) (answer : Result ℕ Syntax) (before mid : Config) (stage : Stage) (new : Subtrees × List Frame) → Comes (marks 0 ts) i j before mid → t ≡ get_or ts j t → StepsTo made stage new (step (mark j t) mid.0 mid.1) → ComesTo made (depth new.1) j answer
    → IfOk answer (λ next. Advances (marks 0 ts) i next before (state_of stage new.0, new.1))
on_advances ts i j t (Ok u) (Ok next) before mid stage new comes at moves to =
    let last : suc j ≡ next = omega (arith, to.0) in (
      omega (arith, to.0, comes.0),
      omega (arith, to.0, comes.1),
      to.1,
      comes.3 ∙ walk_moves limit ts j t (mark j t) mid.0 (state_of stage new.0) mid.1 new.1 (omega (arith, comes.1, length-marks 0 ts)) at refl comes.2 moves.0
          ∙ ap (λ (n : ℕ). walk (within limit) (drop n (marks 0 ts)) (state_of stage new.0) new.1) last,
    )
on_advances ts i j t (Err r.Memory) (Ok next) before mid stage new comes at moves to = absurd to
on_advances ts i j t (Err r.Refused) (Ok next) before mid stage new comes at moves to = absurd to
on_advances ts i j t made (Err fault) before mid stage new comes at moves to = tt

pub on_fails : (ts : List Token) (i j : ℕ) (t : Token) (made : Result (Unit {0}) Refusal) (answer : Result ℕ Syntax) (before mid : Config) (stage : Stage) (new : Subtrees × List Frame) → Comes (marks 0 ts) i j before mid → t ≡ get_or ts j t → StepsTo made stage new (step (mark j t) mid.0 mid.1) → ComesTo made (depth new.1) j answer
    → IfErr answer (λ fault. FailsAt fault (marks 0 ts) i before)
on_fails ts i j t made (Ok next) before mid stage new comes at moves to = tt
on_fails ts i j t (Ok u) (Err (y.TooDeep k)) before mid stage new comes at moves to =
    let here : j ≡ k = sym to.0 in (
      omega (arith, here, comes.1),
      comes.3 ∙ walk_moves limit ts j t (mark j t) mid.0 (state_of stage new.0) mid.1 new.1 (omega (arith, comes.1, length-marks 0 ts)) at refl comes.2 moves.0
          ∙ walk_sinks limit (drop (suc j) (marks 0 ts)) (state_of stage new.0) new.1 to.1 ∙ ap (λ (n : ℕ). deep (drop (suc n) (marks 0 ts))) here,
    )
on_fails ts i j t (Ok u) (Err (y.Stop k)) before mid stage new comes at moves to = absurd to
on_fails ts i j t (Ok u) (Err y.Memory) before mid stage new comes at moves to = absurd to
on_fails ts i j t (Err r.Refused) (Err (y.Stop k)) before mid stage new comes at moves to =
    let here : j ≡ k = sym to in (
      omega (arith, here, comes.1),
      comes.3 ∙ walk_refused limit ts j t (mark j t) mid.0 mid.1 (omega (arith, comes.1, length-marks 0 ts)) at refl comes.2 moves ∙ ap (λ (n : ℕ). stop (drop n (marks 0 ts))) here,
    )
on_fails ts i j t (Err r.Refused) (Err (y.TooDeep k)) before mid stage new comes at moves to = absurd to
on_fails ts i j t (Err r.Refused) (Err y.Memory) before mid stage new comes at moves to = absurd to
on_fails ts i j t (Err r.Memory) (Err y.Memory) before mid stage new comes at moves to = tt
on_fails ts i j t (Err r.Memory) (Err (y.Stop k)) before mid stage new comes at moves to = absurd to
on_fails ts i j t (Err r.Memory) (Err (y.TooDeep k)) before mid stage new comes at moves to = absurd to

pub on_holds : (made : Result (Unit {0}) Refusal) (answer : Result ℕ Syntax) (stage : Stage) (new : Subtrees × List Frame) (move : Option Config) (open_now at : ℕ) → StepsTo made stage new move → ComesTo made open_now at answer → OnOk answer (Holds stage new.0)
on_holds (Ok u) (Ok next) stage new move open_now at moves to = moves.1
on_holds (Err r.Memory) (Ok next) stage new move open_now at moves to = absurd to
on_holds (Err r.Refused) (Ok next) stage new move open_now at moves to = absurd to
on_holds made (Err fault) stage new move open_now at moves to = tt

-- ---- a word or path where an expression may begin

begins_so : (path : Bool) (text : List ℕ) (stage : Stage) (hand : Subtrees) (p : Spot) (fs : List Frame) → begins stage ≡ true → step_by p (l.Word path text) (state_of stage hand) fs ≡ Some (st.Word p text, fs)
unfolding begin argument first_argument sequence
begins_so path text g.Operand hand p fs is = refl
begins_so path text g.FirstArgument hand p fs is = refl
begins_so path text g.Argument hand p fs is = refl
begins_so path text g.Sequence hand p fs is = refl
begins_so path text g.FirstElement hand p fs is = absurd cc
begins_so path text g.Element hand p fs is = absurd cc
begins_so path text (g.Word q w) hand p fs is = absurd cc
begins_so path text (g.Called q w) hand p fs is = absurd cc
begins_so path text g.Whole hand p fs is = absurd cc
begins_so path text g.Listed hand p fs is = absurd cc

pub word_begins : (kind : TokenKind) (n : ℕ) (text : List ℕ) (stage : Stage) (hand : Subtrees) (p : Spot) (fs : List Frame) → is_word kind ≡ true → begins stage ≡ true → step_by p (lexeme_by kind n text) (state_of stage hand) fs ≡ Some (st.Word p text, fs)
word_begins t.Word n text stage hand p fs word is = begins_so false text stage hand p fs is
word_begins t.Path n text stage hand p fs word is = begins_so true text stage hand p fs is
word_begins t.Number n text stage hand p fs word is = absurd cc
word_begins t.Text n text stage hand p fs word is = absurd cc
word_begins t.Symbol n text stage hand p fs word is = absurd cc

pub holds_none : (stage : Stage) (hand : Subtrees) → begins stage ≡ true → Holds stage hand → hand ≡ no_subtrees
holds_none g.Operand hand is holds = holds
holds_none g.FirstArgument hand is holds = holds
holds_none g.Argument hand is holds = holds
holds_none g.Sequence hand is holds = holds
holds_none g.FirstElement hand is holds = absurd cc
holds_none g.Element hand is holds = absurd cc
holds_none (g.Word q w) hand is holds = absurd cc
holds_none (g.Called q w) hand is holds = absurd cc
holds_none g.Whole hand is holds = absurd cc
holds_none g.Listed hand is holds = absurd cc
