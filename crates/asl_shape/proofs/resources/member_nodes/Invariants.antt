use Rattle.std.proofs.Common.{◌≡◌, ◌++◌, drop}
use Rattle.term_plans.specs.Plans.{plans_of}
use Rattle.asl_shape.specs.Descriptors.{member_nodes}
use Rattle.asl_shape.proofs.resources.member_nodes.Given as goal

abbrev pub invariant-loop-member : goal.invariant-loop-member
invariant-loop-member l = l.nodes.items ++ member_nodes (plans_of (drop l.member-index l.body)) ≡ member_nodes (plans_of l.body)
