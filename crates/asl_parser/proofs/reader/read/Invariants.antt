use Rattle.std.proofs.Common.{◌≡◌, ◌≤◌, ◌-◌, length, drop}
use Rattle.asl_syntax.specs.Grow.{limit}
use Rattle.asl_syntax.specs.Marks.{marks}
use Rattle.asl_parser.specs.Stages.{state_of, Holds}
use Rattle.asl_syntax.specs.Frames.{depth}
use Rattle.asl_parser.specs.Machine.{walk, within, reading}
use Rattle.asl_parser.proofs.reader.read.Given as goal

abbrev pub invariant-loop-at : goal.invariant-loop-at
invariant-loop-at l = record { same : walk (within limit) (drop l.at (marks 0 l.tokens)) (state_of l.stage l.stack.0) l.stack.1 ≡ reading (marks 0 l.tokens); low : depth l.stack.1 ≤ limit; holds : Holds l.stage l.stack.0 }

abbrev pub decreases-loop-at : goal.decreases-loop-at
decreases-loop-at l = length l.tokens - l.at
