use Rattle.std.proofs.Common.{◌≡◌, ◌-◌, ◌^◌, min, drop}
use Rattle.asl_tree.specs.Tree.{no_trees, tree}
use Rattle.asl_tree.specs.View.{trees_of}
use Rattle.core_nodes.specs.Weights.{integer_weight, copied, copied_in, copied_cases, copied_default}
use Rattle.core_nodes.specs.Whole.{AreWhole}
use Rattle.core_nodes.proofs.Walks.{Counted}
use Rattle.core_nodes.proofs.copied.+copies.Given as goal

abbrev pub invariant-weighed-loop-node : goal.invariant-weighed-loop-node
invariant-weighed-loop-node l = AreWhole (trees_of l.terms) → Counted (2 ^ 64 - 1) (copied_in (integer_weight l.fold) l.step) (copied (integer_weight l.fold) l.step) l.terms l.node-index l.count

abbrev pub invariant-cases_weighed-loop-node : goal.invariant-cases_weighed-loop-node
invariant-cases_weighed-loop-node l =
    AreWhole (trees_of l.cases) → Counted (2 ^ 64 - 1) (copied_cases (integer_weight l.fold) l.step) (λ t. copied_cases (integer_weight l.fold) l.step (tree t no_trees)) l.cases l.node-index l.count

abbrev pub invariant-default_weighed-loop-node : goal.invariant-default_weighed-loop-node
invariant-default_weighed-loop-node l =
    AreWhole (trees_of l.cases) → min (copied_default (integer_weight l.fold) l.step (trees_of (drop l.node-index l.cases))) (2 ^ 64 - 1) ≡ min (copied_default (integer_weight l.fold) l.step (trees_of l.cases)) (2 ^ 64 - 1)
