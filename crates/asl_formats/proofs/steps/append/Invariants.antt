use Rattle.std.proofs.Common.{◌≡◌, ◌++◌, take}
use Rattle.asl_prints.specs.Numbers.{numbers_of}
use Rattle.asl_tree.specs.View.{trees_of}
use Rattle.term_plans.specs.Plans.{join, plans_of}
use Rattle.asl_prints.specs.Forms.{followed}
use Rattle.asl_formats.proofs.steps.append.Given as goal

abbrev pub invariant-loop-node : goal.invariant-loop-node
invariant-loop-node l = record {
  trees : trees_of l.all.items ≡ followed (trees_of l.fn.front.items) (trees_of (take l.node-index l.nodes));
  numbers : numbers_of l.all.items ≡ numbers_of l.fn.front.items ++ numbers_of (take l.node-index l.nodes);
  plans : plans_of l.all.items ≡ join (plans_of l.fn.front.items) (plans_of (take l.node-index l.nodes));
}
