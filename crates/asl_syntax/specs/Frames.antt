-- What stands open: the level of what may stand next, how much is open, and what is open before the first token.
use Rattle.std.specs.Prelude.{ℕ, ◌+◌, nat_eq, if◌then◌else◌, List, [], ◌∷◌}
use Rattle.asl_syntax.specs.declared.frame.Frame.{Frame}
use Rattle.asl_syntax.specs.declared.frame.Frame.TheVariants as f
use Rattle.asl_syntax.specs.Grow.{no_subtrees}

-- the level of the expressions that may stand next
abbrev pub room : List Frame → ℕ
room (f.Pending level most p o xs ∷ fs) = most
room (f.Unit done ∷ fs) = 0
room (f.List p done ∷ fs) = 0
room [] = 0
room (_ ∷ fs) = 13

-- brackets, prefix operators and assignments that are open
abbrev pub weight : Frame → ℕ
weight (f.Unit done) = 0
weight (f.Pending level most p o xs) = if nat_eq level most then 1 else 0
weight _ = 1

abbrev pub depth : List Frame → ℕ
depth [] = 0
depth (frame ∷ fs) = weight frame + depth fs

-- before the first token
abbrev pub start : List Frame
start = f.Unit no_subtrees ∷ []
