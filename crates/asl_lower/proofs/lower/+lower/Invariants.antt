use Rattle.std.proofs.Common.{◌+◌, ◌*◌}
use Rattle.acpi_names.specs.Parts.{nodes_size, term_size}
use Rattle.asl_lower.proofs.Turns.{Turns}
use Rattle.asl_lower.proofs.Lowered.{IsLowered}
use Rattle.asl_lower.proofs.lower.+lower.Given as goal

abbrev pub invariant-lower_each-loop-node : goal.invariant-lower_each-loop-node
invariant-lower_each-loop-node l = Turns (λ k. IsLowered) l.initial.node-items l.node-items l.node-index

abbrev pub decreases-lower_each : goal.decreases-lower_each
decreases-lower_each l = 16 * (nodes_size l.nodes.now.items) + 1

abbrev pub decreases-lower_node : goal.decreases-lower_node
decreases-lower_node l = 16 * (term_size l.node.now.term) + 15

abbrev pub decreases-lower_form : goal.decreases-lower_form
decreases-lower_form l = 16 * (nodes_size l.args.now.items + nodes_size l.body.now.items) + 20

abbrev pub decreases-lower_body : goal.decreases-lower_body
decreases-lower_body l = 16 * (nodes_size l.body.now.items) + 3

abbrev pub decreases-lower_symbol : goal.decreases-lower_symbol
decreases-lower_symbol l = 16 * (nodes_size l.args.now.items) + 19

abbrev pub decreases-lower_operator : goal.decreases-lower_operator
decreases-lower_operator l = 16 * (nodes_size l.args.now.items) + 18

abbrev pub decreases-lower_assignment : goal.decreases-lower_assignment
decreases-lower_assignment l = 16 * (nodes_size l.args.now.items) + 18

abbrev pub decreases-lower_compound : goal.decreases-lower_compound
decreases-lower_compound l = 16 * (nodes_size l.args.now.items) + 18
