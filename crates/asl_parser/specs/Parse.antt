-- What a call that reads a source ensures.
use Rattle.std.specs.Prelude.{◌≡◌, ℕ, suc, ◌≤◌, ◌<◌, List, length, drop, Option, Some, None, Result, Ok, Err, ◌⊎◌}
use Rattle.asl_lexer.specs.declared.token.Token.{Token}
use Rattle.asl_syntax.specs.declared.raw.Raw.{Raw}
use Rattle.asl_syntax.specs.declared.raw.RawUnit.{RawUnit}
use Rattle.asl_syntax.specs.declared.subtree.Subtrees.{Subtrees}
use Rattle.asl_syntax.specs.declared.mark.Mark.{Mark}
use Rattle.asl_parser.specs.declared.reader.Syntax.{Syntax}
use Rattle.asl_parser.specs.declared.reader.Syntax.TheVariants as e
use Rattle.asl_syntax.specs.Marks.{marks}
use Rattle.asl_syntax.specs.Grow.{limit, at_depth, or_else}
use Rattle.asl_parser.specs.Machine.{Answer, source, stop, deep, reading}
use Rattle.asl_parser.specs.Front.{IsLongestFront}
use Rattle.asl_parser.specs.Depth.{IsTooDeep, IsShallow}

-- the trees of a walk over the tokens, or where it ends, unless memory runs out
abbrev pub EndsIn : Result Subtrees Syntax → List Mark → Answer → Type 0
EndsIn (Ok trees) ms answer = answer ≡ source trees
EndsIn (Err (e.Stop k)) ms answer = (k ≤ length ms) × (answer ≡ stop (drop k ms))
EndsIn (Err (e.TooDeep k)) ms answer = (k < length ms) × (answer ≡ deep (drop (suc k) ms))
EndsIn (Err e.Memory) ms answer = Unit {0}

-- what a reading comes to: the items, or where it stops, or the token at which it is too deep
pub data ParseOutcome : Type 0 where
  read : List Raw → ParseOutcome
  stopped : List Mark → ParseOutcome
  sunk : List Mark → ParseOutcome
  tall : ℕ → ParseOutcome

abbrev pub grown_to : Subtrees → Option (List Raw) → ParseOutcome
grown_to trees (Some items) = read items
grown_to trees None = tall (or_else 0 (at_depth (suc limit) trees.levels))

abbrev pub outcome_by : Answer → ParseOutcome
outcome_by (source trees) = grown_to trees trees.raws
outcome_by (stop rest) = stopped rest
outcome_by (deep rest) = sunk rest

unfoldable pub outcome : List Token → ParseOutcome
outcome tokens = outcome_by (reading (marks 0 tokens))

-- what a call answers, unless memory runs out
abbrev pub HasOutcome : Result RawUnit Syntax → List Token → ParseOutcome → Type 0
HasOutcome (Ok unit) tokens o = o ≡ read unit.items
HasOutcome (Err (e.Stop k)) tokens o = (k ≤ length tokens) × (o ≡ stopped (drop k (marks 0 tokens)))
HasOutcome (Err (e.TooDeep k)) tokens o = ((k < length tokens) × (o ≡ sunk (drop (suc k) (marks 0 tokens)))) ⊎ (o ≡ tall k)
HasOutcome (Err e.Memory) tokens o = Unit {0}

-- the tree of the trees that were read
abbrev pub Gives : Result RawUnit Syntax → Subtrees → Type 0
Gives (Ok unit) trees = trees.raws ≡ Some unit.items
Gives (Err (e.TooDeep k)) trees = (trees.raws ≡ None) × (k ≡ or_else 0 (at_depth (suc limit) trees.levels))
Gives (Err (e.Stop k)) trees = ⊥
Gives (Err e.Memory) trees = ⊥

-- why there is no tree
abbrev pub Fails : Syntax → List Token → Type 0
Fails (e.Stop k) tokens = IsLongestFront (marks 0 tokens) k × IsShallow limit (marks 0 tokens)
Fails (e.TooDeep k) tokens = IsTooDeep limit (marks 0 tokens) k
Fails e.Memory tokens = Unit {0}
