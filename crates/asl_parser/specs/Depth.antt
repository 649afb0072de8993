-- How much is open at the end of a front, and how tall a tree is.
use Rattle.std.specs.Prelude.{◌≡◌, ℕ, suc, ◌≤◌, ◌<◌, List, [], length, take, Some, None}
use Rattle.asl_syntax.specs.declared.mark.Mark.{Mark}
use Rattle.asl_syntax.specs.declared.frame.Frame.{Frame}
use Rattle.asl_parser.specs.declared.state.ParserState.{ParserState}
use Rattle.asl_syntax.specs.Trees.{Trees, nodes_of, first_below}
use Rattle.asl_syntax.specs.Frames.{depth}
use Rattle.asl_parser.specs.Grammar.{IsSource}
use Rattle.asl_parser.specs.Front.{IsFrontIn, IsFront}

-- The tokens are a front that ends where more than the limit is open.
pub record IsDeeper (limit : ℕ) (ms : List Mark) : Type 0 where
  pub state : ParserState
  pub fs : List Frame
  pub front : IsFrontIn state fs ms []
  pub above : limit < depth fs

-- No front of the tokens has more than the limit open.
abbrev pub IsShallow : ℕ → List Mark → Type 0
IsShallow limit ms = (j : ℕ) → IsDeeper limit (take j ms) → ⊥

-- The token k is the first one at whose end more than the limit is open.
pub record OpensTooMuch (limit : ℕ) (ms : List Mark) (k : ℕ) : Type 0 where
  pub within : k < length ms
  pub front : IsFront (take (suc k) ms)
  pub deeper : IsDeeper limit (take (suc k) ms)
  pub first : (j : ℕ) → j ≤ k → IsDeeper limit (take j ms) → ⊥

-- The tokens are a source, and this is the first token of the first node in preorder that stands under more than the limit.
pub record IsTooTall (limit : ℕ) (ms : List Mark) (k : ℕ) : Type 0 where
  pub shallow : IsShallow limit ms
  pub trees : Trees
  pub source : IsSource trees ms
  pub node : first_below limit (nodes_of 0 trees) ≡ Some k

pub data IsTooDeep (limit : ℕ) (ms : List Mark) (k : ℕ) : Type 0 where
  opens : OpensTooMuch limit ms k → IsTooDeep limit ms k
  grows : IsTooTall limit ms k → IsTooDeep limit ms k

-- No node of what the tokens spell stands under more than the limit.
abbrev pub IsLow : ℕ → List Mark → Type 0
IsLow limit ms = (trees : Trees) → IsSource trees ms → first_below limit (nodes_of 0 trees) ≡ None
