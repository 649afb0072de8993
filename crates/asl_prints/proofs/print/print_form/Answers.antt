use Rattle.asl_prints.specs.Nodes.{node_tree}
use Rattle.asl_prints.proofs.Printed.{print_does}
use Rattle.asl_prints.proofs.print.print_form.Goals as goal

pub returns-clause-same : goal.returns-clause-same
returns-clause-same c = print_does c.args.node.now (node_tree c.in_ok-made.made.node) c.requires c.in_ok-made.ensures.tree
