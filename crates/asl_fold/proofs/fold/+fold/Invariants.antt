use Rattle.std.proofs.Common.{◌+◌, ◌*◌}
use Rattle.acpi_names.specs.Parts.{nodes_size, term_size}
use Rattle.asl_lower.proofs.Turns.{Turns}
use Rattle.asl_fold.specs.Nodes.{part_in}
use Rattle.asl_fold.proofs.Nodes.{IsFolded}
use Rattle.asl_fold.proofs.fold.+fold.Given as goal

abbrev pub invariant-fold_nodes-loop-index : goal.invariant-fold_nodes-loop-index
invariant-fold_nodes-loop-index l = Turns (λ k. IsFolded l.width (part_in l.listing k)) l.initial.node-items l.node-items l.index

abbrev pub decreases-fold_nodes : goal.decreases-fold_nodes
decreases-fold_nodes l = 16 * (nodes_size l.nodes.now.items) + 1

abbrev pub decreases-fold_member : goal.decreases-fold_member
decreases-fold_member l = 16 * (term_size l.node.now.term) + 16

abbrev pub decreases-fold_part : goal.decreases-fold_part
decreases-fold_part l = 16 * (term_size l.node.now.term) + 15

abbrev pub decreases-fold_node : goal.decreases-fold_node
decreases-fold_node l = 16 * (term_size l.node.now.term) + 14
