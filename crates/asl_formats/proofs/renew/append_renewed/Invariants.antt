use Rattle.std.proofs.Common.{◌≡◌, ◌++◌, take, true}
use Rattle.asl_tree.specs.View.{trees_of}
use Rattle.term_plans.specs.Plans.{join, plans_of}
use Rattle.asl_formats.specs.Bare.{bare_all}
use Rattle.asl_formats.specs.Plain.{are_plain}
use Rattle.asl_prints.specs.Forms.{followed}
use Rattle.asl_prints.specs.Numbers.{anew, next_behind, numbered, numbers_of}
use Rattle.asl_formats.proofs.renew.append_renewed.Given as goal

abbrev pub invariant-loop-node : goal.invariant-loop-node
invariant-loop-node l = record {
  trees : are_plain (plans_of l.nodes) ≡ true → bare_all (trees_of l.all.items) ≡ bare_all (followed (trees_of l.fn.front.items) (trees_of (take l.node-index l.nodes)));
  plans : plans_of l.all.items ≡ join (plans_of l.fn.front.items) (plans_of (take l.node-index l.nodes));
  numbers : numbers_of l.all.items ≡ numbers_of l.fn.front.items ++ numbered l.initial.next (anew (numbers_of (take l.node-index l.nodes)));
  next : l.next ≡ next_behind l.initial.next (anew (numbers_of (take l.node-index l.nodes)));
}
