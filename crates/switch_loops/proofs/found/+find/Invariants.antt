use Rattle.std.proofs.Common.{◌+◌, ◌*◌}
use Rattle.acpi_names.specs.Parts.{nodes_size, term_size}
use Rattle.switch_loops.proofs.Findings.{FoundTo}
use Rattle.switch_loops.proofs.found.+find.Given as goal

abbrev pub invariant-found_in-loop-node : goal.invariant-found_in-loop-node
invariant-found_in-loop-node l = FoundTo l.found l.nodes l.node-index

abbrev pub decreases-found_at : goal.decreases-found_at
decreases-found_at l = 2 * (term_size l.node.now.term)

abbrev pub decreases-found_in : goal.decreases-found_in
decreases-found_in l = 2 * (nodes_size l.nodes.now) + 1
