use Rattle.std.proofs.Common.{◌≡◌, false, take}
use Rattle.asl_tree.specs.View.{trees_of}
use Rattle.asl_prints.specs.Forms.{have_far_continue}
use Rattle.asl_prints.proofs.leave.+far.Given as goal

abbrev pub invariant-have_far_continue-loop-node : goal.invariant-have_far_continue-loop-node
invariant-have_far_continue-loop-node l = have_far_continue (trees_of (take l.node-index l.nodes)) ≡ false
