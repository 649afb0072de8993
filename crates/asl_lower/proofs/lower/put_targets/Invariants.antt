use Rattle.std.proofs.Common.{◌≡◌, ◌≤◌}
use Rattle.acpi_values.specs.Operators.{row_of}
use Rattle.asl_tree.specs.View.{trees_of}
use Rattle.acpi_names.specs.Walked.{node_tree}
use Rattle.asl_lower.specs.Nests.{joined}
use Rattle.asl_lower.specs.Nodes.{last_target}
use Rattle.asl_lower.proofs.lower.put_targets.Given as goal

abbrev pub invariant-loop-left : goal.invariant-loop-left
invariant-loop-left l = record {
  behind : joined (trees_of l.args.items) (last_target l.left (node_tree l.target)) ≡ joined (trees_of l.initial.args.items) (last_target (row_of l.fn.op).targets (node_tree l.target));
  some : 1 ≤ l.left;
}

abbrev pub decreases-loop-left : goal.decreases-loop-left
decreases-loop-left l = l.left
