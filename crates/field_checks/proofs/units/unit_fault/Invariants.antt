use Rattle.std.proofs.Common.{◌≡◌, drop}
use Rattle.term_plans.specs.Plans.{plans_of}
use Rattle.field_layout.specs.Segments.{first_said}
use Rattle.field_checks.specs.Units.{unit_fault}
use Rattle.field_checks.proofs.units.unit_fault.Given as goal

abbrev pub invariant-loop-node : goal.invariant-loop-node
invariant-loop-node l = unit_fault l.space l.said (plans_of (drop l.node-index l.body)) ≡ unit_fault l.space (first_said l.access) (plans_of l.body)
