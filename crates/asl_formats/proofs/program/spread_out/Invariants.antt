use Rattle.std.proofs.Common.{◌≡◌, length}
use Rattle.asl_tree.specs.View.{trees_of}
use Rattle.term_plans.specs.Plans.{plans_of}
use Rattle.asl_formats.specs.Pass.{backwards, spread_all}
use Rattle.asl_formats.specs.PlanPass as P
use Rattle.asl_formats.proofs.Programs.{spread_before}
use Rattle.asl_formats.proofs.PlanPrograms as L
use Rattle.asl_formats.proofs.program.spread_out.Given as goal

abbrev pub invariant-loop-node : goal.invariant-loop-node
invariant-loop-node l = record {
  trees : spread_before (trees_of l.left.items) (backwards l.made.items) ≡ spread_all (trees_of l.fn.terms.items);
  plans : L.spread_before (plans_of l.left.items) (P.backward_plans l.made.items) ≡ P.spread_all (plans_of l.fn.terms.items);
}

abbrev pub decreases-loop-node : goal.decreases-loop-node
decreases-loop-node l = length l.left.items
