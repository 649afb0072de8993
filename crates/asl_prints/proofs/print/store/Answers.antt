use Rattle.asl_prints.specs.Nodes.{node_tree}
use Rattle.asl_prints.specs.PlanParts.{placed}
use Rattle.asl_prints.proofs.Writes.{store_pushed}
use Rattle.asl_prints.proofs.PlanWrites as L
use Rattle.std.proofs.Common.{◌∷◌, ap, ◌∙◌}
use Rattle.asl_prints.proofs.PrintNumbers.{pushed_two}
use Rattle.asl_prints.proofs.print.store.Goals as goal

pub returns-clause-tree : goal.returns-clause-tree
returns-clause-tree c =
    store_pushed (node_tree c.operator.result) c.args.value c.args.target c.in_ok-operands.operands.items c.push.new.self.items c.push-2.new.self.items c.operator.ensures.tree c.in_ok-operands.ensures.items c.in_ok-push.ensures.items c.in_ok-push-2.ensures.items

pub returns-clause-plan : goal.returns-clause-plan
returns-clause-plan c =
    L.store_pushed c.args.place (placed c.operator.result) c.args.value c.args.target c.in_ok-operands.operands.items c.push.new.self.items c.push-2.new.self.items c.operator.ensures.plan c.in_ok-operands.ensures.items c.in_ok-push.ensures.items c.in_ok-push-2.ensures.items

pub returns-clause-numbers : goal.returns-clause-numbers
returns-clause-numbers c =
    c.operator.ensures.numbers
    ∙ ap (λ ns. c.args.id ∷ ns) (pushed_two c.args.value c.args.target c.in_ok-operands.operands.items c.push.new.self.items c.push-2.new.self.items c.in_ok-operands.ensures.items c.in_ok-push.ensures.items c.in_ok-push-2.ensures.items)
