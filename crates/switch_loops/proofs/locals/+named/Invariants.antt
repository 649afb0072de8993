use Rattle.std.proofs.Common.{◌≡◌, ◌+◌, ◌*◌, drop}
use Rattle.asl_tree.specs.View.{trees_of}
use Rattle.asl_operators.specs.Letters.{letters_as}
use Rattle.acpi_names.specs.Parts.{nodes_size, term_size}
use Rattle.hidden_locals.specs.Locals.{locals_all}
use Rattle.switch_loops.specs.Reads.{marked_all, operand_locals}
use Rattle.switch_loops.proofs.locals.+named.Given as goal

abbrev pub invariant-mark_all-loop-node : goal.invariant-mark_all-loop-node
invariant-mark_all-loop-node l =
    marked_all l.found.named (locals_all (trees_of (drop l.node-index l.nodes))) ≡ marked_all l.fn.found.named (locals_all (trees_of l.nodes))

abbrev pub invariant-mark_variables-loop-index : goal.invariant-mark_variables-loop-index
invariant-mark_variables-loop-index l =
    marked_all l.found.named (operand_locals (drop l.index (letters_as l.letters)) (trees_of (drop l.index l.nodes))) ≡ marked_all l.fn.found.named (operand_locals (letters_as l.letters) (trees_of l.nodes))

abbrev pub decreases-mark_node : goal.decreases-mark_node
decreases-mark_node l = 6 * (term_size l.node.now.term)

abbrev pub decreases-mark_all : goal.decreases-mark_all
decreases-mark_all l = 6 * (nodes_size l.nodes.now) + 1

abbrev pub decreases-mark_operand : goal.decreases-mark_operand
decreases-mark_operand l = 6 * (term_size l.node.now.term) + 1

abbrev pub decreases-mark_variables : goal.decreases-mark_variables
decreases-mark_variables l = 6 * (nodes_size l.nodes.now) + 2

abbrev pub decreases-mark_operands : goal.decreases-mark_operands
decreases-mark_operands l = 6 * (nodes_size l.args.now) + 3

abbrev pub decreases-mark_form : goal.decreases-mark_form
decreases-mark_form l = 6 * (nodes_size l.args.now + nodes_size l.body.now) + 4
