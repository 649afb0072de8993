use Rattle.std.proofs.Common.{◌≡◌, ◌≤◌, ◌+◌, ◌*◌, ◌++◌, false, length, reverse}
use Rattle.asl_tree.specs.View.{trees_of}
use Rattle.acpi_names.specs.Parts.{nodes_size, term_size}
use Rattle.named_sessions.specs.Shaped.{AreShaped}
use Rattle.term_places.specs.Places.{places_of}
use Rattle.asl_lower.specs.Nests.{joined, backwards}
use Rattle.wrapped_externals.specs.Wraps.{wrapped_args, wrapped_all}
use Rattle.wrapped_externals.specs.Starts.{starts, with_ifs}
use Rattle.wrapped_externals.specs.Nodes.{resumed, pending}
use Rattle.wrapped_externals.proofs.wrap.+wrap.Given as goal

abbrev pub invariant-wrap-loop-node : goal.invariant-wrap-loop-node
invariant-wrap-loop-node l = record {
  trees : joined (trees_of l.made.items) (resumed (trees_of l.run.items) (backwards l.left.items)) ≡ wrapped_all (trees_of l.fn.terms.items);
  size : nodes_size l.left.items ≤ nodes_size l.fn.terms.items;
  alone : length (places_of l.run.items) ≡ length l.run.items;
  shaped : AreShaped (trees_of l.fn.terms.items) → AreShaped (backwards l.left.items);
  places : AreShaped (trees_of l.fn.terms.items) → places_of l.made.items ++ with_ifs (pending (length l.run.items) (backwards l.left.items)) (places_of l.run.items ++ places_of (reverse l.left.items)) ≡ with_ifs (starts false (trees_of l.fn.terms.items)) (places_of l.fn.terms.items);
}

abbrev pub decreases-wrap-loop-node : goal.decreases-wrap-loop-node
decreases-wrap-loop-node l = length l.left.items

abbrev pub invariant-wrap_each-loop-node : goal.invariant-wrap_each-loop-node
invariant-wrap_each-loop-node l = record {
  trees : joined (wrapped_args (trees_of l.left.items)) (backwards l.made.items) ≡ wrapped_args (trees_of l.fn.nodes.items);
  size : nodes_size l.left.items ≤ nodes_size l.fn.nodes.items;
}

abbrev pub decreases-wrap_each-loop-node : goal.decreases-wrap_each-loop-node
decreases-wrap_each-loop-node l = length l.left.items

abbrev pub decreases-wrap : goal.decreases-wrap
decreases-wrap l = 16 * (nodes_size l.terms.items) + 3

abbrev pub decreases-wrap_next : goal.decreases-wrap_next
decreases-wrap_next l = 16 * (term_size l.node.term) + 18

abbrev pub decreases-put_behind : goal.decreases-put_behind
decreases-put_behind l = 16 * (term_size l.node.term) + 17

abbrev pub decreases-wrap_each : goal.decreases-wrap_each
decreases-wrap_each l = 16 * (nodes_size l.nodes.items) + 1

abbrev pub decreases-wrap_node : goal.decreases-wrap_node
decreases-wrap_node l = 16 * (term_size l.node.term) + 16

abbrev pub decreases-wrap_term : goal.decreases-wrap_term
decreases-wrap_term l = 16 * (term_size l.term) + 15

abbrev pub decreases-wrap_body : goal.decreases-wrap_body
decreases-wrap_body l = 16 * (nodes_size l.body.items) + 4
