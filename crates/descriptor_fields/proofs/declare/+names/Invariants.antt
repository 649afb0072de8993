use Rattle.std.proofs.Common.{◌≡◌, ◌++◌, drop}
use Rattle.term_plans.specs.Plans.{plans_of}
use Rattle.descriptor_fields.specs.Declaring.{names_among}
use Rattle.descriptor_fields.proofs.declare.+names.Given as goal

abbrev pub invariant-add_among-loop-node : goal.invariant-add_among-loop-node
invariant-add_among-loop-node l = l.names.items ++ names_among (plans_of (drop l.node-index l.nodes)) ≡ l.initial.names.items ++ names_among (plans_of l.nodes)
