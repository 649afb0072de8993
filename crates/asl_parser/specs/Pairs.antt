-- A token that is an expression by itself, read with the token behind it.
use Rattle.std.specs.Prelude.{◌≡◌, ℕ, ◌≤◌, Bool, true, false, List, ◌++◌, Option, Some, None}
use Rattle.asl_syntax.specs.declared.mark.Spot.{Spot}
use Rattle.asl_syntax.specs.declared.mark.Lexeme.{Lexeme}
use Rattle.asl_syntax.specs.declared.mark.Lexeme.TheVariants as l
use Rattle.asl_syntax.specs.declared.mark.Mark.{Mark}
use Rattle.asl_syntax.specs.declared.raw.Raw.TheVariants as raw
use Rattle.asl_syntax.specs.declared.subtree.Subtree.{Subtree}
use Rattle.asl_syntax.specs.declared.subtree.Subtrees.{Subtrees}
use Rattle.asl_syntax.specs.declared.frame.Frame.{Frame}
use Rattle.asl_parser.specs.declared.state.ParserState.{ParserState}
use Rattle.asl_parser.specs.declared.state.ParserState.TheVariants as st
use Rattle.asl_syntax.specs.Grow.{leaf, item, no_subtrees, joined}
use Rattle.asl_syntax.specs.Frames.{depth}
use Rattle.asl_parser.specs.Machine.{Config, walk}
use Rattle.asl_syntax.specs.Opens.{added}

-- the tree of a token that is an expression by itself
abbrev pub plain_by : Spot → Lexeme → Option Subtree
plain_by p (l.Word path w) = Some (item p w None None)
plain_by p (l.Number n) = Some (leaf p.token (raw.Number p.place n))
plain_by p (l.Text t) = Some (leaf p.token (raw.Text p.place t))
plain_by p _ = None

abbrev pub plain : Mark → Option Subtree
plain m = plain_by m.spot m.lexeme

-- an argument may begin
abbrev pub IsArgument : ParserState → Type 0
IsArgument st.FirstArgument = Unit {0}
IsArgument st.Argument = Unit {0}
IsArgument _ = ⊥

-- The tree, if there is one, was added to the innermost frame, or nothing was done.
abbrev pub AddsNode : Bool → Option Subtree → Subtrees × List Frame → Subtrees × List Frame → Type 0
AddsNode true (Some e) old new = new ≡ (no_subtrees, added e old.1)
AddsNode true None old new = ⊥
AddsNode false tree old new = new ≡ old

-- The tree, if there is one, is held behind what was held, or nothing was done.
abbrev pub HoldsNode : Bool → Option Subtree → Subtrees × List Frame → Subtrees × List Frame → Type 0
HoldsNode true (Some e) old new = new ≡ (joined old.0 e, old.1)
HoldsNode true None old new = ⊥
HoldsNode false tree old new = new ≡ old

-- Whatever stands behind these tokens, the reading comes over them from the one to the other, where no more is open.
abbrev pub PassesMarks : List Mark → Config → Config → Type 0
PassesMarks ts before now = (depth now.1 ≤ depth before.1)
    × ((ok : ℕ → Bool) (rest : List Mark) → ok (depth before.1) ≡ true → walk ok (ts ++ rest) before.0 before.1 ≡ walk ok rest now.0 now.1)

-- The reading came over these tokens, or nothing was read.
abbrev pub MayPass : Bool → List Mark → Config → Config → Type 0
MayPass true ts before now = PassesMarks ts before now
MayPass false ts before now = now ≡ before
