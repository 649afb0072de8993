use Rattle.std.proofs.Common.{◌≡◌, drop}
use Rattle.term_plans.specs.Plans.{plans_of}
use Rattle.descriptor_fields.specs.Declaring.{names_descriptors}
use Rattle.descriptor_fields.proofs.declare.+some.Given as goal

abbrev pub invariant-names_descriptors-loop-node : goal.invariant-names_descriptors-loop-node
invariant-names_descriptors-loop-node l = names_descriptors (plans_of (drop l.node-index l.nodes)) ≡ names_descriptors (plans_of l.nodes)
