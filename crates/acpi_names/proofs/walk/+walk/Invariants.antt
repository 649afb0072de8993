use Rattle.std.proofs.Common.{◌+◌, ◌*◌, [], get_or, drop}
use Rattle.asl_tree.specs.View.{trees_of}
use Rattle.asl_operators.specs.Letters.{letters_as}
use Rattle.acpi_names.specs.Mentions.{mentions_all, element_mentions}
use Rattle.acpi_names.specs.Shown.{asked_as}
use Rattle.acpi_names.specs.Walked.{argument_mentions}
use Rattle.acpi_names.specs.Parts.{term_size, nodes_size}
use Rattle.acpi_names.proofs.Telling.{Remains}
use Rattle.acpi_names.proofs.walk.+walk.Given as goal

abbrev pub invariant-values-loop-node : goal.invariant-values-loop-node
invariant-values-loop-node l =
    Remains l.initial.out.items l.out.items (λ paths. mentions_all l.asked (trees_of (drop l.node-index l.nodes)) (get_or paths l.scope [])) (λ paths. mentions_all l.asked (trees_of l.nodes) (get_or paths l.scope []))

abbrev pub invariant-elements-loop-node : goal.invariant-elements-loop-node
invariant-elements-loop-node l =
    Remains l.initial.out.items l.out.items (λ paths. element_mentions l.asked (trees_of (drop l.node-index l.nodes)) (get_or paths l.scope [])) (λ paths. element_mentions l.asked (trees_of l.nodes) (get_or paths l.scope []))

abbrev pub invariant-operands-loop-index : goal.invariant-operands-loop-index
invariant-operands-loop-index l =
    Remains l.initial.out.items l.out.items (λ paths. argument_mentions l.asked (asked_as l.uses) (drop l.index (letters_as l.letters)) (trees_of (drop l.index l.nodes)) (get_or paths l.scope [])) (λ paths. argument_mentions l.asked (asked_as l.uses) (letters_as l.letters) (trees_of l.nodes) (get_or paths l.scope []))

abbrev pub decreases-value : goal.decreases-value
decreases-value l = 8 * (term_size l.node.now.term)

abbrev pub decreases-values : goal.decreases-values
decreases-values l = 8 * (nodes_size l.nodes.now) + 1

abbrev pub decreases-form : goal.decreases-form
decreases-form l = 8 * (nodes_size l.args.now + nodes_size l.body.now) + 5

abbrev pub decreases-assignment : goal.decreases-assignment
decreases-assignment l = 8 * (nodes_size l.args.now) + 4

abbrev pub decreases-operands : goal.decreases-operands
decreases-operands l = 8 * (nodes_size l.nodes.now) + 3

abbrev pub decreases-argument : goal.decreases-argument
decreases-argument l = 8 * (term_size l.node.now.term) + 2

abbrev pub decreases-spot : goal.decreases-spot
decreases-spot l = 8 * (term_size l.node.now.term) + 1

abbrev pub decreases-sought : goal.decreases-sought
decreases-sought l = 8 * (term_size l.node.now.term) + 2

abbrev pub decreases-used : goal.decreases-used
decreases-used l = 8 * (term_size l.node.now.term) + 1

abbrev pub decreases-elements : goal.decreases-elements
decreases-elements l = 8 * (nodes_size l.nodes.now) + 1
