use Rattle.std.proofs.Common.{◌≡◌, ◌≤◌, ◌+◌, ◌*◌, length, drop}
use Rattle.aml_sizes.specs.TermLists.{terms_bytes, later_of}
use Rattle.aml_writer.specs.Fills.{nodes_parts, Fills}
use Rattle.aml_sizes.proofs.Weights.{term_weight, nodes_weight}
use Rattle.aml_writer.proofs.fill.+fill.Given as goal

-- what is put in of the last terms, and how many bytes of them are a run
abbrev pub invariant-fill_terms-loop-left : goal.invariant-fill_terms-loop-left
invariant-fill_terms-loop-left l = record {
  within : l.left ≤ length l.nodes;
  later : l.later ≡ later_of l.style (drop l.left l.nodes);
  fills : Fills (nodes_parts l.style (drop l.left l.nodes)) l.initial.filling.spaces.items l.filling.spaces.items l.initial.filling.pieces.items l.filling.pieces.items;
  size : l.filling.size ≡ l.initial.filling.size + length (terms_bytes l.style (drop l.left l.nodes));
}

abbrev pub decreases-fill_terms-loop-left : goal.decreases-fill_terms-loop-left
decreases-fill_terms-loop-left l = l.left

abbrev pub decreases-fill_terms : goal.decreases-fill_terms
decreases-fill_terms l = 8 * nodes_weight l.nodes.now

abbrev pub decreases-fill_term : goal.decreases-fill_term
decreases-fill_term l = 8 * term_weight l.node.now.term

abbrev pub decreases-fill_own : goal.decreases-fill_own
decreases-fill_own l = 8 * nodes_weight l.body.now + 1
