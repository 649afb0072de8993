use Rattle.std.proofs.Common.{◌≡◌, ◌++◌, drop}
use Rattle.term_plans.specs.Plans.{plans_of}
use Rattle.descriptor_fields.specs.Nodes.{entries_among}
use Rattle.descriptor_fields.proofs.nodes.+named.Given as goal

abbrev pub invariant-add_among-loop-node : goal.invariant-add_among-loop-node
invariant-add_among-loop-node l = l.named.items ++ entries_among l.terms l.own (plans_of (drop l.node-index l.nodes)) ≡ l.initial.named.items ++ entries_among l.terms l.fn.first (plans_of l.nodes)
