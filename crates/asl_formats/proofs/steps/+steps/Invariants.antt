use Rattle.std.proofs.Common.{◌≡◌, ◌+◌, ◌*◌, take, false, []}
use Rattle.asl_tree.specs.View.{trees_of}
use Rattle.term_plans.specs.Plans.{plans_of}
use Rattle.asl_formats.specs.Bare.{shown}
use Rattle.asl_formats.specs.Plain.{MayRenew}
use Rattle.asl_prints.specs.Forms.{stepped_all}
use Rattle.asl_prints.specs.Numbers.{numbers_of, stepped_nodes}
use Rattle.asl_formats.specs.StepNumbers.{Advances}
use Rattle.asl_prints.specs.Plans as P
use Rattle.asl_prints.specs.Nodes.{nodes_size, term_size}
use Rattle.asl_formats.proofs.steps.+steps.Given as goal

abbrev pub invariant-with_steps-loop-node : goal.invariant-with_steps-loop-node
invariant-with_steps-loop-node l = record {
  trees : MayRenew l.initial.copies.keep (plans_of l.fn.steps) → shown l.initial.copies.keep (trees_of l.made.items) ≡ shown l.initial.copies.keep (stepped_all (trees_of l.fn.steps) (trees_of (take l.node-index l.nodes)));
  plans : plans_of l.made.items ≡ P.stepped_all (plans_of l.fn.steps) (plans_of (take l.node-index l.nodes));
  numbers : l.initial.copies.keep ≡ false → Advances (numbers_of l.fn.steps) l.initial.copies l.copies (stepped_nodes (take l.node-index l.nodes)) [] (numbers_of l.made.items);
  keep : l.copies.keep ≡ l.initial.copies.keep;
}

abbrev pub decreases-with_steps : goal.decreases-with_steps
decreases-with_steps l = 4 * (nodes_size l.nodes.now) + 3

abbrev pub decreases-with_step : goal.decreases-with_step
decreases-with_step l = 4 * (term_size l.node.now.term) + 2

abbrev pub decreases-stepped_term : goal.decreases-stepped_term
decreases-stepped_term l = 4 * (term_size l.term.now) + 1

abbrev pub decreases-stepped_braces : goal.decreases-stepped_braces
decreases-stepped_braces l = 4 * (nodes_size l.body.now) + 4
