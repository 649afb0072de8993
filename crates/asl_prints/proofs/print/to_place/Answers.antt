use Rattle.asl_prints.specs.Nodes.{node_tree}
use Rattle.asl_prints.specs.PlanParts.{placed}
use Rattle.asl_prints.proofs.Writes.{place_made, into_none}
use Rattle.asl_prints.proofs.PlanWrites as L
use Rattle.asl_prints.proofs.PrintNumbers.{place_numbers, no_place_numbers, place_next, no_place_next}
use Rattle.asl_prints.proofs.print.to_place.Goals as goal

pub returns-in_default-clause-tree : goal.returns-in_default-clause-tree
returns-in_default-clause-tree c = into_none (node_tree c.nothing.result.node) c.args.args.now c.in_default.len_below

pub returns-in_default-clause-plan : goal.returns-in_default-clause-plan
returns-in_default-clause-plan c = L.into_none c.args.place (placed c.nothing.result.node) c.args.args.now c.in_default.len_below

pub returns-in_ok-made-in-len1-up-clause-tree : goal.returns-in_ok-made-in-len1-up-clause-tree
returns-in_ok-made-in-len1-up-clause-tree c =
    place_made (node_tree c.in_ok-made-in-len1-up.made) (node_tree c.in_ok-value-in-len1-up.value.node) c.target-item.result c.in_ok-target-in-len1-up.target c.args.args.now c.others.result.now c.in-len1-up.len_at_least c.target-item.is c.in_ok-target-in-len1-up.ensures.tree c.others.ensures
    c.in_ok-value-in-len1-up.ensures.tree c.in_ok-made-in-len1-up.ensures.tree

pub returns-in_ok-made-in-len1-up-clause-plan : goal.returns-in_ok-made-in-len1-up-clause-plan
returns-in_ok-made-in-len1-up-clause-plan c =
    L.place_made c.args.place (placed c.in_ok-made-in-len1-up.made) c.in_ok-value-in-len1-up.value.node c.target-item.result c.in_ok-target-in-len1-up.target c.args.args.now c.others.result.now c.in-len1-up.len_at_least c.target-item.is c.in_ok-target-in-len1-up.ensures.plan c.others.ensures
    c.in_ok-value-in-len1-up.ensures.plan c.in_ok-made-in-len1-up.ensures.plan

pub returns-in_default-clause-numbers : goal.returns-in_default-clause-numbers
returns-in_default-clause-numbers c = no_place_numbers c.args.id c.nothing.result.node c.args.args.now c.in_default.len_below

pub returns-in_ok-made-in-len1-up-clause-numbers : goal.returns-in_ok-made-in-len1-up-clause-numbers
returns-in_ok-made-in-len1-up-clause-numbers c =
    place_numbers c.args.id c.in_ok-made-in-len1-up.made c.target-item.result c.in_ok-target-in-len1-up.target c.in_ok-value-in-len1-up.value c.args.args.now c.others.result.now c.in-len1-up.len_at_least c.target-item.is c.in_ok-target-in-len1-up.ensures.numbers c.others.ensures
    c.in_ok-value-in-len1-up.ensures.numbers c.in_ok-made-in-len1-up.ensures.numbers

pub returns-in_default-clause-next : goal.returns-in_default-clause-next
returns-in_default-clause-next c = no_place_next c.args.id c.nothing.result.next c.args.args.now c.in_default.len_below

pub returns-in_ok-made-in-len1-up-clause-next : goal.returns-in_ok-made-in-len1-up-clause-next
returns-in_ok-made-in-len1-up-clause-next c =
    place_next c.args.id c.target-item.result c.in_ok-value-in-len1-up.value c.args.args.now c.others.result.now c.in-len1-up.len_at_least c.target-item.is c.others.ensures c.in_ok-value-in-len1-up.ensures.numbers
