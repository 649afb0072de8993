use Rattle.std.proofs.Common.{◌≡◌, ◌+◌, ◌*◌, [], get_or}
use Rattle.std.specs.Prelude.{nat_eq}
use Rattle.asl_meaning.specs.Declarations.{is_named, written_external}
use Rattle.acpi_names.specs.Parts.{nodes_size, term_size}
use Rattle.acpi_names.specs.Spelled.{spelled, element_spelled}
use Rattle.name_spelling.specs.Spelling.{Grows, other_spelled}
use Rattle.term_places.specs.Places.{places_of}
use Rattle.name_spelling.proofs.Turns.{Turns}
use Rattle.name_spelling.proofs.spell.+spell.Given as goal

abbrev pub invariant-spell_all-loop-node : goal.invariant-spell_all-loop-node
invariant-spell_all-loop-node l = record {
  grows : Grows l.initial.index.paths l.initial.index.named.items l.index.paths l.index.named.items l.calls l.also;
  turns : Turns l.initial.index.paths l.initial.index.named.items l.calls l.also (λ d counts beside k t. spelled l.shorten beside (is_named d) (written_external counts) t (get_or l.initial.index.paths l.scope [])) l.initial.node-items l.node-items l.node-index;
  places : places_of l.node-items ≡ places_of l.initial.node-items;
}

abbrev pub invariant-spell_but-loop-number : goal.invariant-spell_but-loop-number
invariant-spell_but-loop-number l = record {
  grows : Grows l.initial.index.paths l.initial.index.named.items l.index.paths l.index.named.items l.calls l.also;
  turns : Turns l.initial.index.paths l.initial.index.named.items l.calls l.also (λ d counts beside k t. other_spelled l.shorten beside (is_named d) (written_external counts) (nat_eq k l.place) t (get_or l.initial.index.paths l.scope [])) l.initial.node-items l.node-items l.number;
}

abbrev pub invariant-spell_elements-loop-node : goal.invariant-spell_elements-loop-node
invariant-spell_elements-loop-node l = record {
  grows : Grows l.initial.index.paths l.initial.index.named.items l.index.paths l.index.named.items l.calls l.also;
  turns : Turns l.initial.index.paths l.initial.index.named.items l.calls l.also (λ d counts beside k t. element_spelled l.shorten (is_named d) t (spelled l.shorten beside (is_named d) (written_external counts) t (get_or l.initial.index.paths l.scope [])) (get_or l.initial.index.paths l.scope [])) l.initial.node-items l.node-items l.node-index;
  places : places_of l.node-items ≡ places_of l.initial.node-items;
}

abbrev pub decreases-spell_all : goal.decreases-spell_all
decreases-spell_all l = 8 * (nodes_size l.nodes.now.items) + 1

abbrev pub decreases-spell_but : goal.decreases-spell_but
decreases-spell_but l = 8 * (nodes_size l.nodes.now.items) + 1

abbrev pub decreases-spell_elements : goal.decreases-spell_elements
decreases-spell_elements l = 8 * (nodes_size l.nodes.now.items) + 1

abbrev pub decreases-spell_one : goal.decreases-spell_one
decreases-spell_one l = 8 * (term_size l.node.now.term) + 1

abbrev pub decreases-spell_inner : goal.decreases-spell_inner
decreases-spell_inner l = 8 * (term_size l.node.now.term)

abbrev pub decreases-spell_item : goal.decreases-spell_item
decreases-spell_item l = 8 * (term_size l.node.now.term) + 2

abbrev pub decreases-spell_form : goal.decreases-spell_form
decreases-spell_form l = 8 * (nodes_size l.args.now.items + nodes_size l.body.now.items) + 5

abbrev pub decreases-spell_value : goal.decreases-spell_value
decreases-spell_value l = 8 * (nodes_size l.args.now.items + nodes_size l.body.now.items) + 3

abbrev pub decreases-spell_declared : goal.decreases-spell_declared
decreases-spell_declared l = 8 * (nodes_size l.args.now.items + nodes_size l.body.now.items) + 3

abbrev pub decreases-spell_other : goal.decreases-spell_other
decreases-spell_other l = 8 * (term_size l.node.now.term) + 2

abbrev pub decreases-spell_inside : goal.decreases-spell_inside
decreases-spell_inside l = 8 * (nodes_size l.body.now.items) + 2
