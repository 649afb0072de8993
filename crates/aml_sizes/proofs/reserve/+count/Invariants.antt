use Rattle.std.proofs.Common.{◌≤◌, length}
use Rattle.aml_sizes.proofs.reserve.+count.Given as goal

abbrev pub invariant-pieces_of_terms-loop-left : goal.invariant-pieces_of_terms-loop-left
invariant-pieces_of_terms-loop-left l = l.left ≤ length l.nodes

abbrev pub decreases-pieces_of_terms-loop-left : goal.decreases-pieces_of_terms-loop-left
decreases-pieces_of_terms-loop-left l = l.left
