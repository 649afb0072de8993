use Rattle.std.proofs.Common.{◌≡◌, length}
use Rattle.asl_tree.specs.View.{trees_of}
use Rattle.term_plans.specs.Plans.{join, plans_of}
use Rattle.asl_prints.specs.Forms.{followed}
use Rattle.asl_formats.specs.Pass.{backwards}
use Rattle.asl_formats.specs.PlanPass.{backward_plans}
use Rattle.asl_formats.proofs.program.put_all.Given as goal

abbrev pub invariant-loop-term : goal.invariant-loop-term
invariant-loop-term l = record {
  trees : followed (trees_of l.left.items) (backwards l.made.items) ≡ followed (trees_of l.fn.terms.items) (backwards l.fn.made.items);
  plans : join (plans_of l.left.items) (backward_plans l.made.items) ≡ join (plans_of l.fn.terms.items) (backward_plans l.fn.made.items);
}

abbrev pub decreases-loop-term : goal.decreases-loop-term
decreases-loop-term l = length l.left.items
