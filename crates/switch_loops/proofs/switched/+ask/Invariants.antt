use Rattle.std.proofs.Common.{◌+◌, ◌*◌}
use Rattle.acpi_names.specs.Parts.{nodes_size, term_size}
use Rattle.switch_loops.proofs.Asked.{Asked}
use Rattle.switch_loops.proofs.switched.+ask.Given as goal

abbrev pub invariant-has_switch-loop-node : goal.invariant-has_switch-loop-node
invariant-has_switch-loop-node l = Asked l.nodes l.node-index

abbrev pub decreases-switches : goal.decreases-switches
decreases-switches l = 2 * (term_size l.node.now.term)

abbrev pub decreases-has_switch : goal.decreases-has_switch
decreases-has_switch l = 2 * (nodes_size l.nodes.now) + 1
