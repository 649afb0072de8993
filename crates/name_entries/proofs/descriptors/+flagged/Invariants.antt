use Rattle.std.proofs.Common.{◌+◌, ◌*◌, take}
use Rattle.asl_tree.specs.View.{trees_of}
use Rattle.acpi_names.specs.Parts.{term_size, nodes_size}
use Rattle.name_entries.specs.Descriptors.{FlagsMore, descriptors_among}
use Rattle.name_entries.proofs.descriptors.+flagged.Given as goal

abbrev pub invariant-flag_among-loop-node : goal.invariant-flag_among-loop-node
invariant-flag_among-loop-node l = FlagsMore l.initial.flags.items l.flags.items (descriptors_among (trees_of (take l.node-index l.nodes)))

abbrev pub decreases-flag_among : goal.decreases-flag_among
decreases-flag_among l = 4 * (nodes_size l.nodes.now) + 1

abbrev pub decreases-flag_term : goal.decreases-flag_term
decreases-flag_term l = 4 * (term_size l.node.now.term)

abbrev pub decreases-flag_form : goal.decreases-flag_form
decreases-flag_form l = 4 * (nodes_size l.args.now + nodes_size l.body.now) + 2
