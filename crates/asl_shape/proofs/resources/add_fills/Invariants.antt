use Rattle.std.proofs.Common.{◌≡◌, ◌++◌, drop, length}
use Rattle.term_plans.specs.Plans.{plans_of}
use Rattle.asl_shape.specs.Descriptors.{fills_of, names_from}
use Rattle.asl_shape.proofs.resources.add_fills.Given as goal

abbrev pub invariant-loop-node : goal.invariant-loop-node
invariant-loop-node l =
    (l.fill.bytes.items ++ fills_of (plans_of (drop l.node-index l.nodes)) ≡ l.fn.fill.bytes.items ++ fills_of (plans_of l.nodes))
    × (l.fill.named.items ++ names_from (length l.fill.bytes.items) (plans_of (drop l.node-index l.nodes)) ≡ l.fn.fill.named.items ++ names_from (length l.fn.fill.bytes.items) (plans_of l.nodes))
