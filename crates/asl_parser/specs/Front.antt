-- What stands open behind a front of a source: each production, cut short where its next part is to come.
use Rattle.std.specs.Prelude.{◌≡◌, ℕ, ◌≤◌, ◌<◌, Bool, List, [], ◌∷◌, ◌++◌, length, take, Option, Some}
use Rattle.asl_syntax.specs.declared.sign.Sign.TheVariants as s
use Rattle.asl_syntax.specs.declared.sign.Strength.{Strength}
use Rattle.asl_syntax.specs.declared.mark.Spot.{Spot}
use Rattle.asl_syntax.specs.declared.mark.Mark.{Mark}
use Rattle.asl_syntax.specs.declared.raw.Infix.{Infix}
use Rattle.asl_syntax.specs.declared.subtree.Subtree.{Subtree}
use Rattle.asl_syntax.specs.declared.subtree.Subtrees.{Subtrees}
use Rattle.asl_syntax.specs.declared.frame.Frame.{Frame}
use Rattle.asl_syntax.specs.declared.frame.Frame.TheVariants as f
use Rattle.asl_parser.specs.declared.state.ParserState.{ParserState}
use Rattle.asl_parser.specs.declared.state.ParserState.TheVariants as st
use Rattle.asl_syntax.specs.Signs.{strength}
use Rattle.asl_syntax.specs.Trees.{Tree, Trees, TreeGroup, none, more, absent}
use Rattle.asl_syntax.specs.Trees as t
use Rattle.asl_syntax.specs.Grow.{no_subtrees, joined, grown, grown_all, grown_in}
use Rattle.asl_syntax.specs.Frames.{room}
use Rattle.asl_parser.specs.Grammar.{sign, word, expression, arguments, before, argument, member, members, sequence, all, MayFollow, Reads}
use Rattle.asl_parser.specs.Grammar.{IsSource}

abbrev pub TakesList : List Frame → Type 0
TakesList (f.Args p w done ∷ fs) = Unit {0}
TakesList (f.List p done ∷ fs) = Unit {0}
TakesList _ = ⊥

-- where an expression may stand
abbrev pub TakesExpression : List Frame → Type 0
TakesExpression (f.List p done ∷ fs) = ⊥
TakesExpression _ = Unit {0}

-- the tokens of the first list, up to those of the second, are a front that leaves these frames open
pub data LeavesOpen : List Frame → List Mark → List Mark → Type 0 where
  in_source : {done : Trees} {last : Option Tree} {ms rest : List Mark} → Reads (sequence 0 done last) ms rest → MayFollow last rest →
      LeavesOpen (f.Unit (grown_all (all done last)) ∷ []) ms rest
  in_arguments : {p q : Spot} {path : Bool} {w : List ℕ} {done : Trees} {fs : List Frame} {ms mid rest : List Mark} → TakesExpression fs
      → LeavesOpen fs ms (word p path w ∷ sign q s.LeftParen ∷ mid) → Reads (before done) mid rest →
      LeavesOpen (f.Args p w (grown_all done) ∷ fs) ms rest
  in_body : {p q : Spot} {path : Bool} {w : List ℕ} {args : TreeGroup} {done : Trees} {last : Option Tree} {fs : List Frame}
      {ms mid then rest : List Mark} → TakesExpression fs
      → LeavesOpen fs ms (word p path w ∷ mid) → Reads (arguments args) mid (sign q s.LeftBrace ∷ then) → Reads (sequence 13 done last) then
      rest → MayFollow last rest
      → LeavesOpen (f.Body p w (grown_in args) (grown_all (all done last)) ∷ fs) ms rest
  in_bracket : {q : Spot} {fs : List Frame} {ms rest : List Mark} → 1 ≤ room fs → LeavesOpen fs ms (sign q s.LeftParen ∷ rest) →
      LeavesOpen (f.Bracket ∷ fs) ms rest
  in_index : {p : Spot} {a : Tree} {fs : List Frame} {ms mid rest : List Mark} → 1 ≤ room fs → LeavesOpen fs ms mid →
      Reads (expression 1 a) mid (sign p s.LeftBracket ∷ rest)
      → LeavesOpen (f.Index p (grown a) ∷ fs) ms rest
  in_prefix : {p : Spot} {o : Infix} {fs : List Frame} {ms rest : List Mark} → 2 ≤ room fs → LeavesOpen fs ms (sign p (s.Prefix o) ∷ rest) →
      LeavesOpen (f.Pending 2 2 p o no_subtrees ∷ fs) ms rest
  in_infix : {p : Spot} {i : Infix} {o : Strength} {a : Tree} {fs : List Frame} {ms mid rest : List Mark} → strength i ≡ Some o →
      o.level ≤ room fs → LeavesOpen fs ms mid
      → Reads (expression o.pull a) mid (sign p (s.Binary i) ∷ rest) →
      LeavesOpen (f.Pending o.level o.room p i (joined no_subtrees (grown a)) ∷ fs) ms rest
  in_list : {p : Spot} {done : Trees} {fs : List Frame} {ms mid rest : List Mark} → TakesList fs →
      LeavesOpen fs ms (sign p s.LeftBrace ∷ mid) → Reads (members done) mid rest
      → LeavesOpen (f.List p (grown_all done) ∷ fs) ms rest

-- a member of what is open
abbrev pub Suits : List Frame → Tree → List Mark → List Mark → Type 0
Suits (f.Args p w done ∷ fs) e mid rest = Reads (argument e) mid rest
Suits (f.List p done ∷ fs) e mid rest = Reads (member e) mid rest
Suits _ e mid rest = ⊥

abbrev pub TakesElement : List Frame → Type 0
TakesElement (f.List p done ∷ fs) = Unit {0}
TakesElement _ = ⊥

abbrev pub TakesArgument : List Frame → Type 0
TakesArgument (f.Args p w done ∷ fs) = Unit {0}
TakesArgument _ = ⊥

-- directly behind the parenthesis that opens arguments
pub data FirstArgument : List Frame → List Mark → List Mark → Type 0 where
  first_argument : {p q : Spot} {path : Bool} {w : List ℕ} {fs : List Frame} {ms rest : List Mark} → TakesExpression fs →
      LeavesOpen fs ms (word p path w ∷ sign q s.LeftParen ∷ rest)
      → FirstArgument (f.Args p w no_subtrees ∷ fs) ms rest

-- directly behind the brace that opens a list
pub data FirstElement : List Frame → List Mark → List Mark → Type 0 where
  first_element : {p : Spot} {fs : List Frame} {ms rest : List Mark} → TakesList fs → LeavesOpen fs ms (sign p s.LeftBrace ∷ rest) →
      FirstElement (f.List p no_subtrees ∷ fs) ms rest

-- behind a comma of arguments
pub data NextArgument : List Frame → List Mark → List Mark → Type 0 where
  next_argument : {p q : Spot} {path : Bool} {w : List ℕ} {done : Trees} {x : Tree} {fs : List Frame} {ms mid rest : List Mark} →
      TakesExpression fs
      → LeavesOpen fs ms (word p path w ∷ sign q s.LeftParen ∷ mid) → Reads (before (more done x)) mid rest →
      NextArgument (f.Args p w (grown_all (more done x)) ∷ fs) ms rest

-- an expression, no operator of which is applied yet that one behind it could take a part of
pub record Ready (n : ℕ) (e : Tree) (fs : List Frame) (ms rest : List Mark) : Type 0 where
  pub mid : List Mark
  pub level : ℕ
  pub leaves : LeavesOpen fs ms mid
  pub reads : Reads (expression level e) mid rest
  pub low : level ≤ n
  pub fits : level ≤ room fs
  pub takes : TakesExpression fs

-- the same of the subtree that grew of the expression
pub record ReadySubtree (n : ℕ) (b : Subtree) (fs : List Frame) (ms rest : List Mark) : Type 0 where
  pub tree : Tree
  pub is : grown tree ≡ b
  pub ready : Ready n tree fs ms rest

pub record ReadyMember (b : Subtree) (fs : List Frame) (ms rest : List Mark) : Type 0 where
  pub tree : Tree
  pub is : grown tree ≡ b
  pub mid : List Mark
  pub leaves : LeavesOpen fs ms mid
  pub suits : Suits fs tree mid rest

pub record Named (p : Spot) (w : List ℕ) (fs : List Frame) (ms rest : List Mark) : Type 0 where
  pub path : Bool
  pub leaves : LeavesOpen fs ms (word p path w ∷ rest)
  pub takes : TakesExpression fs

pub record CalledWord (p : Spot) (w : List ℕ) (args : Subtrees) (fs : List Frame) (ms rest : List Mark) : Type 0 where
  pub trees : Trees
  pub are : grown_all trees ≡ args
  pub path : Bool
  pub mid : List Mark
  pub leaves : LeavesOpen fs ms (word p path w ∷ mid)
  pub reads : Reads (arguments (t.given trees)) mid rest
  pub takes : TakesExpression fs

-- The tokens of the first list, up to those of the second, are a front: what stands open, and what was read last in it.
abbrev pub IsFrontIn : ParserState → List Frame → List Mark → List Mark → Type 0
IsFrontIn st.Operand fs ms rest = LeavesOpen fs ms rest × TakesExpression fs
IsFrontIn st.FirstArgument fs ms rest = FirstArgument fs ms rest
IsFrontIn st.Argument fs ms rest = NextArgument fs ms rest
IsFrontIn st.FirstElement fs ms rest = FirstElement fs ms rest
IsFrontIn st.Element fs ms rest = LeavesOpen fs ms rest × TakesElement fs
IsFrontIn st.Sequence fs ms rest = LeavesOpen fs ms rest × TakesExpression fs
IsFrontIn (st.Word p w) fs ms rest = Named p w fs ms rest
IsFrontIn (st.Called p w args) fs ms rest = CalledWord p w args fs ms rest
IsFrontIn (st.Whole b) fs ms rest = ReadySubtree 1 b fs ms rest
IsFrontIn (st.Listed b) fs ms rest = ReadyMember b fs ms rest

-- The tokens can go on to a source.
pub record IsFront (ms : List Mark) : Type 0 where
  pub behind : List Mark
  pub trees : Trees
  pub source : IsSource trees (ms ++ behind)

-- The first k tokens are the longest front, and the tokens are no source.
pub record IsLongestFront (ms : List Mark) (k : ℕ) : Type 0 where
  pub within : k ≤ length ms
  pub front : IsFront (take k ms)
  pub longest : (n : ℕ) → k < n → n ≤ length ms → IsFront (take n ms) → ⊥
  pub no_source : (trees : Trees) → IsSource trees ms → ⊥
