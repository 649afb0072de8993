use Rattle.std.proofs.Common.{◌≡◌, ◌+◌, ◌*◌, drop}
use Rattle.asl_tree.specs.View.{trees_of}
use Rattle.acpi_names.specs.Parts.{nodes_size, term_size}
use Rattle.switch_loops.specs.Measures.{both, measured}
use Rattle.switch_loops.proofs.measure.+measure.Given as goal

abbrev pub invariant-measure_all-loop-node : goal.invariant-measure_all-loop-node
invariant-measure_all-loop-node l = both l.found (measured (trees_of (drop l.node-index l.nodes))) ≡ measured (trees_of l.nodes)

abbrev pub decreases-measure_node : goal.decreases-measure_node
decreases-measure_node l = 3 * (term_size l.node.now.term)

abbrev pub decreases-measure_within : goal.decreases-measure_within
decreases-measure_within l = 3 * (nodes_size l.body.now) + 2

abbrev pub decreases-measure_all : goal.decreases-measure_all
decreases-measure_all l = 3 * (nodes_size l.nodes.now) + 1
