use Rattle.std.proofs.Common.{◌≡◌, ◌++◌, length, reverse}
use Rattle.std.specs.Prelude.{not}
use Rattle.std.specs.List.{filter}
use Rattle.switch_loops.specs.Kinds.{default_node}
use Rattle.switch_loops.specs.Links.{first_default}
use Rattle.switch_loops.proofs.Splits.{earlier}
use Rattle.switch_loops.proofs.split.split_cases.Given as goal

abbrev pub invariant-loop-node : goal.invariant-loop-node
invariant-loop-node l = record {
  cases : filter (λ node. not (default_node node)) l.left.items ++ reverse l.cases.items ≡ filter (λ node. not (default_node node)) l.fn.nodes.items;
  default : earlier l.left.items l.default ≡ first_default l.fn.nodes.items;
}

abbrev pub decreases-loop-node : goal.decreases-loop-node
decreases-loop-node l = length l.left.items
