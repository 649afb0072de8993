use Rattle.std.proofs.Common.{◌≡◌, false, take}
use Rattle.asl_tree.specs.View.{trees_of}
use Rattle.asl_meaning.specs.Continues.{have_continue}
use Rattle.asl_prints.proofs.leave.+continues.Given as goal

abbrev pub invariant-have_continue-loop-node : goal.invariant-have_continue-loop-node
invariant-have_continue-loop-node l = have_continue (trees_of (take l.node-index l.nodes)) ≡ false
