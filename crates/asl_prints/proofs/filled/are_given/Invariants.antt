use Rattle.std.proofs.Common.{◌≡◌, true, take}
use Rattle.asl_tree.specs.View.{trees_of}
use Rattle.asl_prints.specs.Forms.{are_given}
use Rattle.asl_prints.proofs.filled.are_given.Given as goal

abbrev pub invariant-loop-node : goal.invariant-loop-node
invariant-loop-node l = are_given (trees_of (take l.node-index l.nodes)) ≡ true
