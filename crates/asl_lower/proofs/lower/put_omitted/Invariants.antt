use Rattle.std.proofs.Common.{◌≡◌}
use Rattle.acpi_values.specs.Operators.{row_of}
use Rattle.asl_tree.specs.Tree.{Omitted}
use Rattle.asl_tree.specs.View.{trees_of}
use Rattle.asl_lower.specs.Nests.{joined}
use Rattle.asl_lower.specs.Nodes.{last_target}
use Rattle.asl_lower.proofs.lower.put_omitted.Given as goal

abbrev pub invariant-loop-left : goal.invariant-loop-left
invariant-loop-left l = joined (trees_of l.args.items) (last_target l.left Omitted) ≡ joined (trees_of l.initial.args.items) (last_target (row_of l.fn.op).targets Omitted)

abbrev pub decreases-loop-left : goal.decreases-loop-left
decreases-loop-left l = l.left
