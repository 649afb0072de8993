use Rattle.std.proofs.Common.{◌≡◌, length}
use Rattle.asl_parser.specs.Machine as spec
use Rattle.asl_syntax.specs.Opens.{IsOne, tree_of}
use Rattle.asl_parser.proofs.settle.settle.Given as goal

abbrev pub invariant-loop-stack : goal.invariant-loop-stack
invariant-loop-stack l = record { same : spec.settle l.pull (tree_of l.stack.0) l.stack.1 ≡ spec.settle l.pull (tree_of l.fn.stack.0) l.fn.stack.1; one : IsOne l.stack.0 }

abbrev pub decreases-loop-stack : goal.decreases-loop-stack
decreases-loop-stack l = length l.stack.1
