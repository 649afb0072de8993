use Rattle.acpi_names.proofs.Naming.{taken_trees, first_all}
use Rattle.acpi_names.proofs.mention.first_nodes.Goals as goal

pub returns-then-place-nodes : goal.returns-then-place-nodes
returns-then-place-nodes c = taken_trees c.args.place c.args.nodes.now

pub returns-else-place-nodes : goal.returns-else-place-nodes
returns-else-place-nodes c = first_all c.args.place c.args.nodes.now c.if-place-nodes.false
