use Rattle.std.proofs.Common.{◌≡◌, true, take}
use Rattle.asl_tree.specs.View.{trees_of}
use Rattle.asl_prints.specs.Fits.{are_integers}
use Rattle.asl_prints.proofs.leave.are_numbers.Given as goal

abbrev pub invariant-loop-node : goal.invariant-loop-node
invariant-loop-node l = are_integers (trees_of (take l.node-index l.nodes)) ≡ true
