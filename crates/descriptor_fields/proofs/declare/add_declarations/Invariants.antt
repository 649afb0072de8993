use Rattle.std.proofs.Common.{◌≡◌, length}
use Rattle.std.specs.Prelude.{reverse}
use Rattle.term_plans.specs.Plans.{plans_of, join}
use Rattle.descriptor_fields.specs.Declaring.{declarations}
use Rattle.descriptor_fields.proofs.declare.add_declarations.Given as goal

abbrev pub invariant-loop-named : goal.invariant-loop-named
invariant-loop-named l = join (plans_of l.nodes.items) (declarations (reverse l.left.items)) ≡ join (plans_of l.fn.nodes.items) (declarations l.fn.names.items)

abbrev pub decreases-loop-named : goal.decreases-loop-named
decreases-loop-named l = length l.left.items
