use Rattle.asl_prints.specs.Nodes.{node_tree}
use Rattle.asl_prints.specs.PlanParts.{placed}
use Rattle.asl_prints.proofs.Writes.{listed_made, listed_none}
use Rattle.asl_prints.proofs.PlanWrites as L
use Rattle.asl_prints.proofs.PrintNumbers.{listed_has, listed_none_has}
use Rattle.asl_prints.proofs.print.listed_value.Goals as goal

pub returns-in_ok-made-in-len1-up-clause-tree : goal.returns-in_ok-made-in-len1-up-clause-tree
returns-in_ok-made-in-len1-up-clause-tree c =
    listed_made (node_tree c.in_ok-made-in-len1-up.made.node) c.format-item.result c.args.args.now c.others.result.now c.in-len1-up.len_at_least c.format-item.is c.others.ensures c.in_ok-made-in-len1-up.ensures.tree

pub returns-in_ok-made-in-len1-up-clause-plan : goal.returns-in_ok-made-in-len1-up-clause-plan
returns-in_ok-made-in-len1-up-clause-plan c =
    L.listed_made c.args.place (placed c.in_ok-made-in-len1-up.made.node) c.format-item.result c.args.args.now c.others.result.now c.in-len1-up.len_at_least c.format-item.is c.others.ensures c.in_ok-made-in-len1-up.ensures.plan

pub returns-in_default-clause-tree : goal.returns-in_default-clause-tree
returns-in_default-clause-tree c = listed_none (node_tree c.nothing.result.node) c.args.args.now c.in_default.len_below

pub returns-in_default-clause-plan : goal.returns-in_default-clause-plan
returns-in_default-clause-plan c = L.listed_none c.args.place (placed c.nothing.result.node) c.args.args.now c.in_default.len_below

pub returns-in_ok-made-in-len1-up-clause-numbers : goal.returns-in_ok-made-in-len1-up-clause-numbers
returns-in_ok-made-in-len1-up-clause-numbers c =
    listed_has c.args.id c.in_ok-made-in-len1-up.made c.format-item.result c.args.args.now c.others.result.now c.in-len1-up.len_at_least c.format-item.is c.others.ensures c.in_ok-made-in-len1-up.ensures.numbers

pub returns-in_default-clause-numbers : goal.returns-in_default-clause-numbers
returns-in_default-clause-numbers c = listed_none_has c.args.id c.nothing.result c.args.args.now c.in_default.len_below
