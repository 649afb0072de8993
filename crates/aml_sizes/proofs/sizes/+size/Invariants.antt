use Rattle.std.proofs.Common.{◌≡◌, ◌≤◌, ◌+◌, ◌*◌, length, take}
use Rattle.asl_operators.specs.Letters.{letters_as}
use Rattle.aml_sizes.specs.Capped.{capped}
use Rattle.aml_sizes.specs.TermBytes.{nodes_bytes}
use Rattle.aml_sizes.specs.PackageLengths.{nodes_lengths}
use Rattle.aml_sizes.proofs.NotedLengths.{Rest}
use Rattle.aml_sizes.proofs.Weights.{term_weight, nodes_weight}
use Rattle.aml_sizes.proofs.sizes.+size.Given as goal

-- what is counted, and what is left to count
abbrev pub invariant-nodes_size-loop-left : goal.invariant-nodes_size-loop-left
invariant-nodes_size-loop-left l = record {
  within : l.left ≤ length l.nodes;
  few : l.size ≤ 18446744073709551615;
  lengths : Rest (nodes_lengths l.style (letters_as l.letters) (take l.left l.nodes)) l.notes (nodes_lengths l.style (letters_as l.letters) l.nodes) l.initial.notes;
  size : capped (l.size + length (nodes_bytes l.style (letters_as l.letters) (take l.left l.nodes))) ≡ capped (length (nodes_bytes l.style (letters_as l.letters) l.nodes));
}

abbrev pub decreases-nodes_size-loop-left : goal.decreases-nodes_size-loop-left
decreases-nodes_size-loop-left l = l.left

abbrev pub decreases-term_size : goal.decreases-term_size
decreases-term_size l = 8 * term_weight l.term.now

abbrev pub decreases-operand_size : goal.decreases-operand_size
decreases-operand_size l = 8 * term_weight l.term.now + 1

abbrev pub decreases-nodes_size : goal.decreases-nodes_size
decreases-nodes_size l = 8 * nodes_weight l.nodes.now

abbrev pub decreases-headed_size : goal.decreases-headed_size
decreases-headed_size l = 8 * nodes_weight l.args.now + 1

abbrev pub decreases-buffer_size_size : goal.decreases-buffer_size_size
decreases-buffer_size_size l = 8 * nodes_weight l.args.now + 1

abbrev pub decreases-sized_buffer : goal.decreases-sized_buffer
decreases-sized_buffer l = 8 * nodes_weight l.args.now + 2

abbrev pub decreases-count_size : goal.decreases-count_size
decreases-count_size l = 8 * nodes_weight l.args.now + 1

abbrev pub decreases-sized_package : goal.decreases-sized_package
decreases-sized_package l = 8 * nodes_weight l.args.now + 2

abbrev pub decreases-sized_external : goal.decreases-sized_external
decreases-sized_external l = 8 * nodes_weight l.args.now + 1

abbrev pub decreases-sized_form : goal.decreases-sized_form
decreases-sized_form l = 8 * nodes_weight l.args.now + 3

abbrev pub decreases-body_size : goal.decreases-body_size
decreases-body_size l = 8 * nodes_weight l.body.now + 1

abbrev pub decreases-call_size : goal.decreases-call_size
decreases-call_size l = 8 * nodes_weight l.args.now + 1

abbrev pub decreases-plain_form_size : goal.decreases-plain_form_size
decreases-plain_form_size l = 8 * (nodes_weight l.args.now + nodes_weight l.body.now) + 4

abbrev pub decreases-ruled_form_size : goal.decreases-ruled_form_size
decreases-ruled_form_size l = 8 * (nodes_weight l.args.now + nodes_weight l.body.now) + 4

abbrev pub decreases-form_size : goal.decreases-form_size
decreases-form_size l = 8 * (nodes_weight l.args.now + nodes_weight l.body.now) + 5
