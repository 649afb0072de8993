use Rattle.std.proofs.Common.{◌≡◌, ◌≤◌, ◌+◌, ◌*◌, ◌++◌, length, reverse}
use Rattle.asl_tree.specs.View.{trees_of}
use Rattle.acpi_names.specs.Parts.{nodes_size, term_size}
use Rattle.asl_lower.specs.Nests.{backwards}
use Rattle.hidden_locals.specs.Switches.{opened, links, default_link}
use Rattle.term_places.specs.Places.{places_of}
use Rattle.asl_lower.proofs.Turns.{Turns}
use Rattle.switch_loops.specs.Given.{AreGiven}
use Rattle.switch_loops.specs.Links.{plan_as, looped_all, behind, otherwise_trees, otherwise_places}
use Rattle.switch_loops.specs.Places.{looped_places, cases_places, first_default_places}
use Rattle.switch_loops.proofs.InPlace.{IsLooped}
use Rattle.switch_loops.proofs.Puts.{put_all, link_all}
use Rattle.switch_loops.proofs.Sizes.{default_size}
use Rattle.switch_loops.proofs.loops.+loops.Given as goal

abbrev pub invariant-loops_for-loop-node : goal.invariant-loops_for-loop-node
invariant-loops_for-loop-node l = record {
  trees : AreGiven (trees_of l.fn.terms.items) → put_all l.flag l.values l.inside l.left.items (backwards l.made.items) ≡ looped_all l.flag l.values l.inside (trees_of l.fn.terms.items);
  given : AreGiven (trees_of l.fn.terms.items) → AreGiven (trees_of l.left.items);
  size : nodes_size l.left.items ≤ nodes_size l.fn.terms.items;
  places : looped_places l.inside l.left.items ++ places_of (reverse l.made.items) ≡ looped_places l.inside l.fn.terms.items;
}

abbrev pub decreases-loops_for-loop-node : goal.decreases-loops_for-loop-node
decreases-loops_for-loop-node l = length l.left.items

abbrev pub invariant-chain-loop-node : goal.invariant-chain-loop-node
invariant-chain-loop-node l = record {
  trees : AreGiven (trees_of l.fn.nodes.items) → behind (trees_of l.tests.items) (link_all l.flag l.values (reverse l.left.items) (default_link (plan_as l.flag l.values) 1 (trees_of l.fn.nodes.items)))
      ≡ opened (links (plan_as l.flag l.values) 1 (trees_of l.fn.nodes.items) (default_link (plan_as l.flag l.values) 1 (trees_of l.fn.nodes.items)));
  given : AreGiven (trees_of l.fn.nodes.items) → AreGiven (trees_of (reverse l.left.items));
  size : nodes_size (reverse l.left.items) ≤ nodes_size l.fn.nodes.items;
  places : places_of l.tests.items ++ cases_places (reverse l.left.items) ≡ cases_places l.fn.nodes.items;
  otherwise : AreGiven (trees_of l.fn.nodes.items) → otherwise_trees l.default ≡ default_link (plan_as l.flag l.values) 1 (trees_of l.fn.nodes.items);
  otherwise_place : otherwise_places l.default ≡ first_default_places l.fn.nodes.items;
}

abbrev pub decreases-chain-loop-node : goal.decreases-chain-loop-node
decreases-chain-loop-node l = length l.left.items

abbrev pub invariant-loops_within-loop-node : goal.invariant-loops_within-loop-node
invariant-loops_within-loop-node l = Turns (λ k. IsLooped l.flag l.values l.inside) l.initial.node-items l.node-items l.node-index

abbrev pub decreases-loops_of : goal.decreases-loops_of
decreases-loops_of l = 16 * (nodes_size l.terms.now.items) + 3

abbrev pub decreases-loops_in : goal.decreases-loops_in
decreases-loops_in l = 16 * (nodes_size l.terms.now.items) + 2

abbrev pub decreases-loops_within : goal.decreases-loops_within
decreases-loops_within l = 16 * (nodes_size l.terms.now.items) + 1

abbrev pub decreases-loops_for : goal.decreases-loops_for
decreases-loops_for l = 16 * (nodes_size l.terms.items) + 1

abbrev pub decreases-loops_at : goal.decreases-loops_at
decreases-loops_at l = 16 * (term_size l.node.now.term) + 14

abbrev pub decreases-put : goal.decreases-put
decreases-put l = 16 * (term_size l.node.term) + 15

abbrev pub decreases-in_braces : goal.decreases-in_braces
decreases-in_braces l = 16 * (nodes_size l.body.now.items) + 4

abbrev pub decreases-put_switch : goal.decreases-put_switch
decreases-put_switch l = 16 * (nodes_size l.cases.items) + 8

abbrev pub decreases-chain : goal.decreases-chain
decreases-chain l = 16 * (nodes_size l.nodes.items) + 7

abbrev pub decreases-default_of : goal.decreases-default_of
decreases-default_of l = 16 * (default_size l.default) + 5

abbrev pub decreases-terms_of : goal.decreases-terms_of
decreases-terms_of l = 16 * (term_size l.term) + 17

abbrev pub decreases-put_case : goal.decreases-put_case
decreases-put_case l = 16 * (term_size l.node.term) + 15

abbrev pub decreases-put_form : goal.decreases-put_form
decreases-put_form l = 16 * (nodes_size l.args.items + nodes_size l.body.items) + 20
