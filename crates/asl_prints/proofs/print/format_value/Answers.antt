use Rattle.std.proofs.Common.{refl}
use Rattle.asl_tree.specs.View.{trees_of}
use Rattle.term_plans.specs.Plans.{plans_of}
use Rattle.asl_prints.specs.Nodes.{node_tree}
use Rattle.asl_prints.specs.PlanParts.{placed}
use Rattle.asl_prints.proofs.Writes.{format_made, no_format}
use Rattle.asl_prints.proofs.PlanWrites as L
use Rattle.asl_prints.proofs.PrintNumbers.{format_has, no_format_has}
use Rattle.asl_prints.proofs.print.format_value.Goals as goal

pub returns-in_ok-made-in-Text-clause-tree : goal.returns-in_ok-made-in-Text-clause-tree
returns-in_ok-made-in-Text-clause-tree c = format_made (node_tree c.in_ok-made-in-Text.made.node) c.args.format.now c.in-Text.text c.in-Text.text (trees_of c.args.args.now) c.in-Text.is refl c.in_ok-made-in-Text.ensures.tree

pub returns-in_ok-made-in-Text-clause-plan : goal.returns-in_ok-made-in-Text-clause-plan
returns-in_ok-made-in-Text-clause-plan c = L.format_made c.args.place (placed c.in_ok-made-in-Text.made.node) c.args.format.now c.in-Text.text c.in-Text.text (plans_of c.args.args.now) c.in-Text.is refl c.in_ok-made-in-Text.ensures.plan

pub returns-in_default : goal.returns-in_default
returns-in_default c = record {
  tree = no_format (node_tree c.nothing.result.node) c.args.format.now (trees_of c.args.args.now) c.in_default.not-Text;
  plan = L.no_format c.args.place (placed c.nothing.result.node) c.args.format.now (plans_of c.args.args.now) c.in_default.not-Text;
  numbers = no_format_has c.args.id c.nothing.result c.args.format.now c.args.args.now c.in_default.not-Text;
}

pub returns-in_ok-made-in-Text-clause-numbers : goal.returns-in_ok-made-in-Text-clause-numbers
returns-in_ok-made-in-Text-clause-numbers c can = format_has c.args.id c.in_ok-made-in-Text.made c.args.format.now c.in-Text.text c.in-Text.text c.args.args.now c.in-Text.is refl c.in_ok-made-in-Text.ensures.numbers
