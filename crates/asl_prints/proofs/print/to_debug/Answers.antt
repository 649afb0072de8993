use Rattle.asl_tree.specs.View.{trees_of}
use Rattle.term_plans.specs.Plans.{plans_of}
use Rattle.asl_prints.specs.Nodes.{node_tree}
use Rattle.asl_prints.specs.PlanParts.{placed}
use Rattle.asl_prints.proofs.Writes.{debug_printed}
use Rattle.asl_prints.proofs.PlanWrites as L
use Rattle.asl_prints.proofs.PrintNumbers.{debug_numbers, debug_next}
use Rattle.asl_prints.proofs.print.to_debug.Goals as goal

pub returns-clause-tree : goal.returns-clause-tree
returns-clause-tree c =
    debug_printed (node_tree c.in_ok-made.made) (node_tree c.in_ok-value.value.node) (node_tree c.debug.result) (trees_of c.args.args.now) c.debug.ensures.tree c.in_ok-value.ensures.tree c.in_ok-made.ensures.tree

pub returns-clause-plan : goal.returns-clause-plan
returns-clause-plan c =
    L.debug_printed c.args.place (placed c.in_ok-made.made) c.in_ok-value.value.node c.debug.result (plans_of c.args.args.now) c.debug.ensures.plan c.in_ok-value.ensures.plan c.in_ok-made.ensures.plan

pub returns-clause-numbers : goal.returns-clause-numbers
returns-clause-numbers c =
    debug_numbers c.args.id c.in_ok-made.made c.debug.result c.in_ok-value.value c.args.args.now c.debug.ensures.numbers c.in_ok-value.ensures.numbers c.in_ok-made.ensures.numbers

pub returns-clause-next : goal.returns-clause-next
returns-clause-next c = debug_next c.args.id c.in_ok-value.value c.args.args.now c.in_ok-value.ensures.numbers
