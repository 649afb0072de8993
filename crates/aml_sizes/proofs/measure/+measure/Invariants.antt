use Rattle.std.proofs.Common.{◌≡◌, ◌≤◌, ◌+◌, ◌*◌, length, drop}
use Rattle.aml_sizes.specs.Capped.{capped}
use Rattle.aml_sizes.specs.TermLists.{terms_bytes, later_of}
use Rattle.aml_sizes.proofs.Weights.{term_weight, nodes_weight}
use Rattle.aml_sizes.proofs.measure.+measure.Given as goal

-- what is counted of the last terms, and how many bytes of them are a run
abbrev pub invariant-terms_size-loop-left : goal.invariant-terms_size-loop-left
invariant-terms_size-loop-left l = record {
  within : l.left ≤ length l.nodes;
  size : l.size ≡ capped (length (terms_bytes l.style (drop l.left l.nodes)));
  later : l.later ≡ capped (later_of l.style (drop l.left l.nodes));
}

abbrev pub decreases-terms_size-loop-left : goal.decreases-terms_size-loop-left
decreases-terms_size-loop-left l = l.left

abbrev pub decreases-terms_size : goal.decreases-terms_size
decreases-terms_size l = 8 * nodes_weight l.nodes.now

abbrev pub decreases-listed_size : goal.decreases-listed_size
decreases-listed_size l = 8 * term_weight l.term.now

abbrev pub decreases-container_size : goal.decreases-container_size
decreases-container_size l = 8 * nodes_weight l.body.now + 1
