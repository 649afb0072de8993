-- An operator between two operands that is read with its last operand, where that is one token.
use Rattle.std.specs.Prelude.{◌≡◌, ℕ, ◌+◌, ◌≤◌, Bool, true, false, nat_le, List, [], ◌∷◌, ◌++◌, Option, Some, None, Result, Ok, Err}
use Rattle.asl_syntax.specs.declared.mark.Spot.{Spot}
use Rattle.asl_syntax.specs.declared.mark.Lexeme.{Lexeme}
use Rattle.asl_syntax.specs.declared.mark.Lexeme.TheVariants as l
use Rattle.asl_syntax.specs.declared.mark.Look.{Look}
use Rattle.asl_syntax.specs.declared.mark.Look.TheVariants as look
use Rattle.asl_syntax.specs.declared.mark.Mark.{Mark}
use Rattle.asl_syntax.specs.declared.raw.Infix.{Infix}
use Rattle.asl_syntax.specs.declared.sign.Sign.TheVariants as s
use Rattle.asl_syntax.specs.declared.sign.Strength.{Strength}
use Rattle.asl_syntax.specs.declared.subtree.Subtree.{Subtree}
use Rattle.asl_syntax.specs.declared.subtree.Subtrees.{Subtrees}
use Rattle.asl_syntax.specs.declared.frame.Frame.{Frame}
use Rattle.asl_parser.specs.declared.state.Refusal.{Refusal}
use Rattle.asl_parser.specs.declared.state.Refusal.TheVariants as r
use Rattle.asl_parser.specs.declared.state.ParserState.{ParserState}
use Rattle.asl_parser.specs.declared.state.ParserState.TheVariants as st
use Rattle.asl_syntax.specs.Grow.{limit, applied}
use Rattle.asl_syntax.specs.Frames.{depth}
use Rattle.asl_parser.specs.Machine.{Config, walk, within, step}
use Rattle.asl_syntax.specs.Opens.{IsOne, tree_of}
use Rattle.asl_parser.specs.Reading.{Advances}
use Rattle.asl_syntax.specs.Signs.{strength}

abbrev pub pulls : ℕ → Option Strength → Bool
pulls level None = false
pulls level (Some o) = nat_le level o.pull

-- Operators of this level are applied to the operand before such a token.
abbrev pub applies : ℕ → Lexeme → Bool
applies level (l.Word path w) = true
applies level (l.Sign s.RightParen) = true
applies level (l.Sign s.RightBrace) = true
applies level (l.Sign s.Comma) = true
applies level (l.Sign (s.Binary i)) = pulls level (strength i)
applies level _ = false

-- The operator is held over what was held and the tree, if there is one.
abbrev pub AppliesNode : Option Subtree → Spot → Infix → Subtrees × List Frame → Subtrees × List Frame → Type 0
AppliesNode None p i old new = ⊥
AppliesNode (Some e) p i old new = IsOne new.0 × (tree_of new.0 ≡ applied p i old.0 e) × (new.1 ≡ old.1)

-- Whatever stands behind them, the reading comes over these tokens, before the one that stands next.
abbrev pub PassesBefore : List Mark → Mark → Config → Config → Type 0
PassesBefore ts next before now = (depth now.1 ≤ limit)
    × ((rest : List Mark) → walk (within limit) (ts ++ next ∷ rest) before.0 before.1 ≡ walk (within limit) (next ∷ rest) now.0 now.1)

-- The operator and its last operand were read before the token that stands next, or nothing was, or the operator may not stand here.
abbrev pub MayOperate : Result Bool Refusal → Mark → Mark → Mark → Subtrees × List Frame → Subtrees × List Frame → Type 0
MayOperate (Ok true) t u next old new = IsOne new.0
    × PassesBefore (t ∷ u ∷ []) next (st.Whole (tree_of old.0), old.1) (st.Whole (tree_of new.0), new.1)
MayOperate (Ok false) t u next old new = new ≡ old
MayOperate (Err r.Memory) t u next old new = Unit {0}
MayOperate (Err r.Refused) t u next old new = step t (st.Whole (tree_of old.0)) old.1 ≡ None

-- an expression in parentheses may begin
abbrev pub MayBegin : ParserState → Type 0
MayBegin st.Operand = Unit {0}
MayBegin st.FirstArgument = Unit {0}
MayBegin st.Argument = Unit {0}
MayBegin st.Sequence = Unit {0}
MayBegin _ = ⊥

-- Five tokens from this place on were read, an operator between two operands in parentheses, or nothing was.
abbrev pub MayBracket : Bool → List Mark → ℕ → Subtrees × List Frame → Subtrees × List Frame → Type 0
MayBracket false all at old new = new ≡ old
MayBracket true all at old new = IsOne new.0
    × ((a : ParserState) → MayBegin a → Advances all at (at + 5) (a, old.1) (st.Whole (tree_of new.0), new.1))

-- an operator between two operands looks so
abbrev pub IsOperator : Look → Type 0
IsOperator (look.Sign (s.Binary i)) = Unit {0}
IsOperator _ = ⊥
