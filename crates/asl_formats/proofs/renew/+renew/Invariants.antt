use Rattle.std.proofs.Common.{◌≡◌, ◌+◌, ◌*◌, take}
use Rattle.term_plans.specs.Plans.{plans_of}
use Rattle.asl_prints.specs.Nodes.{nodes_size, term_size}
use Rattle.asl_prints.specs.Numbers.{anew, next_behind, numbered, numbers_of}
use Rattle.asl_formats.proofs.renew.+renew.Given as goal

abbrev pub invariant-renewed_all-loop-node : goal.invariant-renewed_all-loop-node
invariant-renewed_all-loop-node l = record {
  plans : plans_of l.made.items ≡ plans_of (take l.node-index l.nodes);
  numbers : numbers_of l.made.items ≡ numbered l.initial.next (anew (numbers_of (take l.node-index l.nodes)));
  next : l.next ≡ next_behind l.initial.next (anew (numbers_of (take l.node-index l.nodes)));
}

abbrev pub decreases-renewed : goal.decreases-renewed
decreases-renewed l = 4 * (term_size l.node.now.term) + 2

abbrev pub decreases-renewed_term : goal.decreases-renewed_term
decreases-renewed_term l = 4 * (term_size l.term.now) + 1

abbrev pub decreases-renewed_all : goal.decreases-renewed_all
decreases-renewed_all l = 4 * (nodes_size l.nodes.now) + 3
