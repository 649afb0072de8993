-- A call whose arguments are held before a frame is opened.
use Rattle.std.specs.Prelude.{◌≡◌, ℕ, Bool, true, false, List, ◌∷◌}
use Rattle.asl_syntax.specs.declared.mark.Spot.{Spot}
use Rattle.asl_syntax.specs.declared.mark.Lexeme.{Lexeme}
use Rattle.asl_syntax.specs.declared.mark.Lexeme.TheVariants as l
use Rattle.asl_syntax.specs.declared.mark.Mark.{Mark}
use Rattle.asl_syntax.specs.declared.sign.Sign.TheVariants as s
use Rattle.asl_syntax.specs.declared.subtree.Subtrees.{Subtrees}
use Rattle.asl_syntax.specs.declared.frame.Frame.{Frame}
use Rattle.asl_syntax.specs.declared.frame.Frame.TheVariants as f
use Rattle.asl_parser.specs.declared.state.ParserState.TheVariants as st
use Rattle.asl_parser.specs.declared.stage.Stage.{Stage}
use Rattle.asl_parser.specs.declared.stage.Stage.TheVariants as g
use Rattle.asl_parser.specs.declared.calls.Arguments.{Arguments}
use Rattle.asl_parser.specs.declared.calls.Arguments.TheVariants as a
use Rattle.asl_parser.specs.Machine.{Config}
use Rattle.asl_parser.specs.Pairs.{PassesMarks}
use Rattle.asl_parser.specs.Reading.{Passes}

-- The call of this word whose arguments were read so far: those that are held are all of them.
abbrev pub calling : Arguments → Spot → List ℕ → Subtrees × List Frame → Config
calling a.Unread p w v = (st.FirstArgument, f.Args p w v.0 ∷ v.1)
calling a.Open p w v = (st.Argument, f.Args p w v.0 ∷ v.1)
calling a.Closed p w v = (st.Called p w v.0, v.1)

-- what was read last, where arguments may come
abbrev pub stage_of : Arguments → Stage
stage_of a.Unread = g.FirstArgument
stage_of _ = g.Argument

-- more arguments may come
abbrev pub may_go_on : Arguments → Bool
may_go_on a.Closed = false
may_go_on _ = true

-- up to what arguments are read where this stands behind one
abbrev pub SignIs : Arguments → Lexeme → Type 0
SignIs a.Unread x = Unit {0}
SignIs a.Open x = x ≡ l.Sign s.Comma
SignIs a.Closed x = x ≡ l.Sign s.RightParen

-- An argument and the token behind it were read, whatever was read of the call before, or nothing was.
abbrev pub HoldsArgument : Arguments → List Mark → Subtrees × List Frame → Subtrees × List Frame → Type 0
HoldsArgument a.Unread ts old new = new ≡ old
HoldsArgument read ts old new = (p : Spot) (w : List ℕ) (before : Arguments) → may_go_on before ≡ true
    → PassesMarks ts (calling before p w old) (calling read p w new)

-- The arguments between these places were read of a call of which nothing had been read.
abbrev pub Reads : List Mark → ℕ → ℕ → Arguments → Subtrees × List Frame → Subtrees × List Frame → Type 0
Reads all from at read old new = (p : Spot) (w : List ℕ) → Passes all from at (calling a.Unread p w old) (calling read p w new)
