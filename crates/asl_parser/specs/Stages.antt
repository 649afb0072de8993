-- What was read last, as the code keeps it: the trees of it are held.
use Rattle.std.specs.Prelude.{◌≡◌, ℕ, ◌≤◌, Bool, true, false, List, Option, Some, None, Result, Ok, Err}
use Rattle.asl_syntax.specs.declared.mark.Spot.{Spot}
use Rattle.asl_syntax.specs.declared.mark.Lexeme.TheVariants as l
use Rattle.asl_syntax.specs.declared.subtree.Subtrees.{Subtrees}
use Rattle.asl_syntax.specs.declared.frame.Frame.{Frame}
use Rattle.asl_parser.specs.declared.state.ParserState.{ParserState}
use Rattle.asl_parser.specs.declared.state.ParserState.TheVariants as st
use Rattle.asl_parser.specs.declared.state.Refusal.{Refusal}
use Rattle.asl_parser.specs.declared.state.Refusal.TheVariants as r
use Rattle.asl_parser.specs.declared.stage.Stage.{Stage}
use Rattle.asl_parser.specs.declared.stage.Stage.TheVariants as g
use Rattle.asl_syntax.specs.Grow.{no_subtrees}
use Rattle.asl_syntax.specs.Frames.{depth}
use Rattle.asl_parser.specs.Machine.{Config, step_by}
use Rattle.asl_syntax.specs.Opens.{IsOne, tree_of}

-- the state with these trees
abbrev pub state_of : Stage → Subtrees → ParserState
state_of g.Operand hand = st.Operand
state_of g.FirstArgument hand = st.FirstArgument
state_of g.Argument hand = st.Argument
state_of g.FirstElement hand = st.FirstElement
state_of g.Element hand = st.Element
state_of g.Sequence hand = st.Sequence
state_of (g.Word p w) hand = st.Word p w
state_of (g.Called p w) hand = st.Called p w hand
state_of g.Whole hand = st.Whole (tree_of hand)
state_of g.Listed hand = st.Listed (tree_of hand)

-- that so many trees are held as have to be
abbrev pub Holds : Stage → Subtrees → Type 0
Holds (g.Called p w) hand = Unit {0}
Holds g.Whole hand = IsOne hand
Holds g.Listed hand = IsOne hand
Holds _ hand = hand ≡ no_subtrees

-- an expression may begin, or has to
abbrev pub begins : Stage → Bool
begins g.Operand = true
begins g.FirstArgument = true
begins g.Argument = true
begins g.Sequence = true
begins _ = false

-- what a step of the code ensures
abbrev pub StepsTo : Result (Unit {0}) Refusal → Stage → Subtrees × List Frame → Option Config → Type 0
StepsTo (Ok u) s new move = (move ≡ Some (state_of s new.0, new.1)) × Holds s new.0
StepsTo (Err r.Memory) s new move = Unit {0}
StepsTo (Err r.Refused) s new move = move ≡ None

-- an expression was read, which a word or path does not go on with
abbrev pub ends : Stage → Bool
ends (g.Called p w) = true
ends g.Whole = true
ends _ = false

-- What a word or path does behind an expression: it begins the next one, among these frames, where no more is open than before.
abbrev pub BeginsNext : Result (Unit {0}) Refusal → Config → Subtrees × List Frame → Type 0
BeginsNext (Ok u) before new = (new.0 ≡ no_subtrees) × (depth new.1 ≤ depth before.1)
    × ((p : Spot) (path : Bool) (word : List ℕ) → step_by p (l.Word path word) before.0 before.1 ≡ Some (st.Word p word, new.1))
BeginsNext (Err r.Memory) before new = Unit {0}
BeginsNext (Err r.Refused) before new = (p : Spot) (path : Bool) (word : List ℕ) → step_by p (l.Word path word) before.0 before.1 ≡ None
