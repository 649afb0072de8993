use Rattle.std.proofs.Common.{◌≡◌, [], get_or, Vec, Global, None, refl, sym, ap, ◌∙◌, arith, rules}
use Rattle.std.specs.Prelude.{nat_eq, unwrap_or}
use Rattle.asl_tree.specs.declared.term.Node.{Node}
use Rattle.asl_tree.specs.declared.term.Term as D
use Rattle.asl_tree.specs.declared.term.Term.TheVariants as V
use Rattle.asl_tree.specs.View.{trees_of}
use Rattle.asl_meaning.specs.Declarations.{is_named, written_external}
use Rattle.acpi_names.specs.Paths.{is_named_in}
use Rattle.acpi_names.specs.Parts.{part_of, path_of}
use Rattle.acpi_names.specs.Shortest.{spelled_use}
use Rattle.acpi_names.specs.Spelled.{spelled, spelled_all, spelled_elements, element_spelled}
use Rattle.name_spelling.specs.Spelling.{other_spelled, spelled_but, value_args, value_body, part_args, part_body, opened_at, opened_body, place_at}
use Rattle.acpi_names.specs.Walked.{node_tree, value_form_of}
use Rattle.acpi_names.proofs.Folds.{at_of}
use Rattle.name_spelling.proofs.Spelling.{spelled_use_same, spelled_item_same, opened_same}
use Rattle.name_spelling.proofs.SpelledNodes.{arity_written, name_spelled, element_named, element_kept, call_spelled, form_spelled, another_spelled, element_unnamed, another, unnamed_is, call_is, form_is}
use Rattle.acpi_names.proofs.Trees.{call_smaller, form_smaller}
use Rattle.name_spelling.proofs.Turns.{turns_next, turns_whole, turn_smaller, said_before, all_before, known_before, grows_none, grows_then, front_only, mapped_all, mapped_but, mapped_elements}
use Rattle.term_places.specs.Places.{places_of}
use Rattle.term_places.proofs.Places.{places_set}
use Rattle.name_spelling.proofs.SpelledPlaces.{name_places, call_places, form_same_places}
use Rattle.name_spelling.proofs.spell.+spell.Goals as goal

pub spell_all-spell_one-requires : goal.spell_all-spell_one-requires
spell_all-spell_one-requires t c = (
  omega (arith, c.decreases, turn_smaller c.args.index.now.paths c.args.index.now.named.items c.args.calls.now c.args.also.now _ c.deref_mut-node-items.result.now c.loop-node.node-items c.args.nodes.now.items c.loop-node.node-index c.node-item.result c.loop-node.invariant.turns c.loop-node-test.true c.node-item.is c.deref_mut-node-items.ensures.value),
  (omega (arith, c.requires.scope_in, c.loop-node.invariant.grows.others.longer), (c.loop-node.invariant.grows.size, (omega (arith, c.requires.short, c.loop-node.invariant.grows.others.longer), omega (arith, c.requires.few, c.loop-node.invariant.grows.others.longer)))),
)

pub spell_all-loop-node-preserved : goal.spell_all-loop-node-preserved
spell_all-loop-node-preserved t c =
    let grows = c.loop-node.invariant.grows in
    let now = c.in_ok-spell_one.ensures in
    let scope = get_or c.args.index.now.paths c.args.scope [] in record {
      grows = grows_then c.args.index.now.paths c.loop-node.index.paths c.spell_one.new.index.paths c.args.index.now.named.items c.loop-node.index.named.items c.spell_one.new.index.named.items c.args.calls.now c.args.also.now grows now.grows;
      turns = turns_next c.args.index.now.paths c.args.index.now.named.items c.args.calls.now c.args.also.now (λ d counts beside k t'. spelled c.args.shorten beside (is_named d) (written_external counts) t' scope) c.deref_mut-node-items.result.now c.loop-node.node-items c.loop-node.node-index c.node-item.result c.spell_one.new.node c.loop-node-test.true c.loop-node.invariant.turns
          (said_before c.args.index.now.paths c.loop-node.index.paths c.args.index.now.named.items c.loop-node.index.named.items c.args.calls.now c.args.also.now
          (λ d counts beside s. spelled c.args.shorten beside (is_named d) (written_external counts) (node_tree (get_or c.loop-node.node-items c.loop-node.node-index c.node-item.result)) s) (node_tree c.spell_one.new.node) c.args.scope c.requires.scope_in grows now.spells);
      places = places_set c.loop-node.node-items c.loop-node.node-index c.node-item.result c.spell_one.new.node (omega (arith, c.loop-node-test.true, c.loop-node.invariant.turns.size)) now.places ∙ c.loop-node.invariant.places;
    }

pub spell_all-returns-clause-spells : goal.spell_all-returns-clause-spells
spell_all-returns-clause-spells t c d counts beside agrees tabled met =
    let scope = get_or c.args.index.now.paths c.args.scope [] in
    ap trees_of (front_only c.loop-node.node-items _ c.args.nodes.now.len (omega (arith, c.deref_mut-node-items.ensures.len, c.loop-node.auto.node-items)))
    ∙ turns_whole c.args.index.now.paths c.args.index.now.named.items c.args.calls.now c.args.also.now _ c.deref_mut-node-items.result.now c.loop-node.node-items c.loop-node.node-index c.loop-node-test.false c.loop-node.invariant.turns d counts beside agrees tabled met
    ∙ mapped_all c.args.shorten beside (is_named d) (written_external counts) scope (trees_of c.deref_mut-node-items.result.now)
    ∙ ap (λ ns. spelled_all c.args.shorten beside (is_named d) (written_external counts) (trees_of ns) scope) c.deref_mut-node-items.ensures.value

pub spell_but-spell_other-requires : goal.spell_but-spell_other-requires
spell_but-spell_other-requires t c = (
  omega (arith, c.decreases, turn_smaller c.args.index.now.paths c.args.index.now.named.items c.args.calls.now c.args.also.now _ c.deref_mut-node-items.result.now c.loop-number.node-items c.args.nodes.now.items c.loop-number.number c.node-item.result c.loop-number.invariant.turns c.loop-number-test.true c.node-item.is c.deref_mut-node-items.ensures.value),
  (omega (arith, c.requires.scope_in, c.loop-number.invariant.grows.others.longer), (c.loop-number.invariant.grows.size, (omega (arith, c.requires.short, c.loop-number.invariant.grows.others.longer), omega (arith, c.requires.few, c.loop-number.invariant.grows.others.longer)))),
)

pub spell_but-loop-number-preserved : goal.spell_but-loop-number-preserved
spell_but-loop-number-preserved t c =
    let grows = c.loop-number.invariant.grows in
    let now = c.in_ok-spell_other.ensures in
    let scope = get_or c.args.index.now.paths c.args.scope [] in record {
      grows = grows_then c.args.index.now.paths c.loop-number.index.paths c.spell_other.new.index.paths c.args.index.now.named.items c.loop-number.index.named.items c.spell_other.new.index.named.items c.args.calls.now c.args.also.now grows now.grows;
      turns = turns_next c.args.index.now.paths c.args.index.now.named.items c.args.calls.now c.args.also.now
          (λ d counts beside k t'. other_spelled c.args.shorten beside (is_named d) (written_external counts) (nat_eq k c.args.place) t' scope) c.deref_mut-node-items.result.now c.loop-number.node-items c.loop-number.number c.node-item.result c.spell_other.new.node c.loop-number-test.true c.loop-number.invariant.turns
          (said_before c.args.index.now.paths c.loop-number.index.paths c.args.index.now.named.items c.loop-number.index.named.items c.args.calls.now c.args.also.now
          (λ d counts beside s. other_spelled c.args.shorten beside (is_named d) (written_external counts) (nat_eq c.loop-number.number c.args.place) (node_tree (get_or c.loop-number.node-items c.loop-number.number c.node-item.result)) s) (node_tree c.spell_other.new.node) c.args.scope c.requires.scope_in grows now.spells);
    }

pub spell_but-returns-clause-spells : goal.spell_but-returns-clause-spells
spell_but-returns-clause-spells t c d counts beside agrees tabled met =
    let scope = get_or c.args.index.now.paths c.args.scope [] in
    ap trees_of (front_only c.loop-number.node-items _ c.args.nodes.now.len (omega (arith, c.deref_mut-node-items.ensures.len, c.loop-number.auto.node-items)))
    ∙ turns_whole c.args.index.now.paths c.args.index.now.named.items c.args.calls.now c.args.also.now _ c.deref_mut-node-items.result.now c.loop-number.node-items c.loop-number.number c.loop-number-test.false c.loop-number.invariant.turns d counts beside agrees tabled met
    ∙ mapped_but c.args.shorten beside (is_named d) (written_external counts) scope c.args.place (trees_of c.deref_mut-node-items.result.now)
    ∙ ap (λ ns. spelled_but c.args.shorten beside (is_named d) (written_external counts) c.args.place (trees_of ns) scope) c.deref_mut-node-items.ensures.value

pub spell_elements-spell_item-requires : goal.spell_elements-spell_item-requires
spell_elements-spell_item-requires t c = (
  omega (arith, c.decreases, turn_smaller c.args.index.now.paths c.args.index.now.named.items c.args.calls.now c.args.also.now _ c.deref_mut-node-items.result.now c.loop-node.node-items c.args.nodes.now.items c.loop-node.node-index c.node-item.result c.loop-node.invariant.turns c.loop-node-test.true c.node-item.is c.deref_mut-node-items.ensures.value),
  (omega (arith, c.requires.scope_in, c.loop-node.invariant.grows.others.longer), (c.loop-node.invariant.grows.size, (omega (arith, c.requires.short, c.loop-node.invariant.grows.others.longer), omega (arith, c.requires.few, c.loop-node.invariant.grows.others.longer)))),
)

pub spell_elements-loop-node-preserved : goal.spell_elements-loop-node-preserved
spell_elements-loop-node-preserved t c =
    let grows = c.loop-node.invariant.grows in
    let now = c.in_ok-spell_item.ensures in
    let scope = get_or c.args.index.now.paths c.args.scope [] in record {
      grows = grows_then c.args.index.now.paths c.loop-node.index.paths c.spell_item.new.index.paths c.args.index.now.named.items c.loop-node.index.named.items c.spell_item.new.index.named.items c.args.calls.now c.args.also.now grows now.grows;
      turns = turns_next c.args.index.now.paths c.args.index.now.named.items c.args.calls.now c.args.also.now
          (λ d counts beside k t'. element_spelled c.args.shorten (is_named d) t' (spelled c.args.shorten beside (is_named d) (written_external counts) t' scope) scope) c.deref_mut-node-items.result.now c.loop-node.node-items c.loop-node.node-index c.node-item.result c.spell_item.new.node c.loop-node-test.true c.loop-node.invariant.turns
          (said_before c.args.index.now.paths c.loop-node.index.paths c.args.index.now.named.items c.loop-node.index.named.items c.args.calls.now c.args.also.now
          (λ d counts beside s. element_spelled c.args.shorten (is_named d) (node_tree (get_or c.loop-node.node-items c.loop-node.node-index c.node-item.result)) (spelled c.args.shorten beside (is_named d) (written_external counts) (node_tree (get_or c.loop-node.node-items c.loop-node.node-index c.node-item.result)) s) s)
          (node_tree c.spell_item.new.node) c.args.scope c.requires.scope_in grows now.spells);
      places = places_set c.loop-node.node-items c.loop-node.node-index c.node-item.result c.spell_item.new.node (omega (arith, c.loop-node-test.true, c.loop-node.invariant.turns.size)) now.places ∙ c.loop-node.invariant.places;
    }

pub spell_elements-returns-clause-spells : goal.spell_elements-returns-clause-spells
spell_elements-returns-clause-spells t c d counts beside agrees tabled met =
    let scope = get_or c.args.index.now.paths c.args.scope [] in
    ap trees_of (front_only c.loop-node.node-items _ c.args.nodes.now.len (omega (arith, c.deref_mut-node-items.ensures.len, c.loop-node.auto.node-items)))
    ∙ turns_whole c.args.index.now.paths c.args.index.now.named.items c.args.calls.now c.args.also.now _ c.deref_mut-node-items.result.now c.loop-node.node-items c.loop-node.node-index c.loop-node-test.false c.loop-node.invariant.turns d counts beside agrees tabled met
    ∙ mapped_elements c.args.shorten beside (is_named d) (written_external counts) scope (trees_of c.deref_mut-node-items.result.now)
    ∙ ap (λ ns. spelled_elements c.args.shorten beside (is_named d) (written_external counts) (trees_of ns) scope) c.deref_mut-node-items.ensures.value

pub spell_value-returns-in_ok-spell_all-in-Operator-clause-args : goal.spell_value-returns-in_ok-spell_all-in-Operator-clause-args
spell_value-returns-in_ok-spell_all-in-Operator-clause-args t c d counts beside agrees tabled met =
    c.in_ok-spell_all-in-Operator.ensures.spells d counts beside agrees tabled met ∙ sym (ap (λ form. value_args c.args.shorten beside (is_named d) (written_external counts) form (trees_of c.args.args.now.items) (get_or c.args.index.now.paths c.args.scope [])) c.in-Operator.is)

pub spell_value-returns-in_ok-spell_all-in-CondRefOf-clause-args : goal.spell_value-returns-in_ok-spell_all-in-CondRefOf-clause-args
spell_value-returns-in_ok-spell_all-in-CondRefOf-clause-args t c d counts beside agrees tabled met =
    c.in_ok-spell_all-in-CondRefOf.ensures.spells d counts beside agrees tabled met ∙ sym (ap (λ form. value_args c.args.shorten beside (is_named d) (written_external counts) form (trees_of c.args.args.now.items) (get_or c.args.index.now.paths c.args.scope [])) c.in-CondRefOf.is)

pub spell_value-returns-in_ok-spell_all-in-Assign-clause-args : goal.spell_value-returns-in_ok-spell_all-in-Assign-clause-args
spell_value-returns-in_ok-spell_all-in-Assign-clause-args t c d counts beside agrees tabled met =
    c.in_ok-spell_all-in-Assign.ensures.spells d counts beside agrees tabled met ∙ sym (ap (λ form. value_args c.args.shorten beside (is_named d) (written_external counts) form (trees_of c.args.args.now.items) (get_or c.args.index.now.paths c.args.scope [])) c.in-Assign.is)

pub spell_value-returns-in_ok-spell_all-in-AssignBy-clause-args : goal.spell_value-returns-in_ok-spell_all-in-AssignBy-clause-args
spell_value-returns-in_ok-spell_all-in-AssignBy-clause-args t c d counts beside agrees tabled met =
    c.in_ok-spell_all-in-AssignBy.ensures.spells d counts beside agrees tabled met ∙ sym (ap (λ form. value_args c.args.shorten beside (is_named d) (written_external counts) form (trees_of c.args.args.now.items) (get_or c.args.index.now.paths c.args.scope [])) c.in-AssignBy.is)

pub spell_value-returns-in_ok-spell_all-in-Buffer-clause-args : goal.spell_value-returns-in_ok-spell_all-in-Buffer-clause-args
spell_value-returns-in_ok-spell_all-in-Buffer-clause-args t c d counts beside agrees tabled met =
    c.in_ok-spell_all-in-Buffer.ensures.spells d counts beside agrees tabled met ∙ sym (ap (λ form. value_args c.args.shorten beside (is_named d) (written_external counts) form (trees_of c.args.args.now.items) (get_or c.args.index.now.paths c.args.scope [])) c.in-Buffer.is)

pub spell_value-returns-in_ok-spell_elements-in-Package-clause-args : goal.spell_value-returns-in_ok-spell_elements-in-Package-clause-args
spell_value-returns-in_ok-spell_elements-in-Package-clause-args t c d counts beside agrees tabled met =
    c.in_ok-spell_all-in-Package.ensures.spells d counts beside agrees tabled met ∙ sym (ap (λ form. value_args c.args.shorten beside (is_named d) (written_external counts) form (trees_of c.args.args.now.items) (get_or c.args.index.now.paths c.args.scope [])) c.in-Package.is)

pub spell_value-returns-in_ok-spell_elements-in-Package-clause-body : goal.spell_value-returns-in_ok-spell_elements-in-Package-clause-body
spell_value-returns-in_ok-spell_elements-in-Package-clause-body t c d counts beside agrees tabled met =
    all_before c.args.index.now.paths c.spell_all-in-Package.new.index.paths c.args.index.now.named.items c.spell_all-in-Package.new.index.named.items c.args.calls.now c.args.also.now
    (λ d counts beside s. spelled_elements c.args.shorten beside (is_named d) (written_external counts) (trees_of c.args.body.now.items) s) (trees_of c.spell_elements.new.nodes.items) c.args.scope c.requires.scope_in c.in_ok-spell_all-in-Package.ensures.grows c.in_ok-spell_elements-in-Package.ensures.spells d counts beside agrees tabled met
    ∙ sym (ap (λ form. value_body c.args.shorten beside (is_named d) (written_external counts) form (trees_of c.args.body.now.items) (get_or c.args.index.now.paths c.args.scope [])) c.in-Package.is)

pub spell_value-returns-in_ok-spell_elements-in-Package-clause-grows : goal.spell_value-returns-in_ok-spell_elements-in-Package-clause-grows
spell_value-returns-in_ok-spell_elements-in-Package-clause-grows t c =
    grows_then c.args.index.now.paths c.spell_all-in-Package.new.index.paths c.spell_elements.new.index.paths c.args.index.now.named.items c.spell_all-in-Package.new.index.named.items c.spell_elements.new.index.named.items c.args.calls.now c.args.also.now c.in_ok-spell_all-in-Package.ensures.grows c.in_ok-spell_elements-in-Package.ensures.grows

pub spell_form-returns-in_ok-spell_all-in-Returns-clause-args : goal.spell_form-returns-in_ok-spell_all-in-Returns-clause-args
spell_form-returns-in_ok-spell_all-in-Returns-clause-args t c d counts beside agrees tabled met =
    c.in_ok-spell_all-in-Returns.ensures.spells d counts beside agrees tabled met ∙ ap (λ part. part_args c.args.shorten beside (is_named d) (written_external counts) part (value_form_of c.args.op (trees_of c.args.args.now.items) (trees_of c.args.body.now.items)) (trees_of c.args.args.now.items) (get_or c.args.index.now.paths c.args.scope []))
    (c.in-Returns.ensures ∙ ap (λ ns. part_of c.args.op (trees_of ns) (trees_of c.deref-2.result.now)) c.deref.ensures.value ∙ ap (λ ns. part_of c.args.op (trees_of c.args.args.now.items) (trees_of ns)) c.deref-2.ensures.value)

pub spell_form-returns-in_ok-spell_all-in-Prints-clause-args : goal.spell_form-returns-in_ok-spell_all-in-Prints-clause-args
spell_form-returns-in_ok-spell_all-in-Prints-clause-args t c d counts beside agrees tabled met =
    c.in_ok-spell_all-in-Prints.ensures.spells d counts beside agrees tabled met ∙ ap (λ part. part_args c.args.shorten beside (is_named d) (written_external counts) part (value_form_of c.args.op (trees_of c.args.args.now.items) (trees_of c.args.body.now.items)) (trees_of c.args.args.now.items) (get_or c.args.index.now.paths c.args.scope []))
    (c.in-Prints.ensures ∙ ap (λ ns. part_of c.args.op (trees_of ns) (trees_of c.deref-2.result.now)) c.deref.ensures.value ∙ ap (λ ns. part_of c.args.op (trees_of c.args.args.now.items) (trees_of ns)) c.deref-2.ensures.value)

pub spell_form-returns-in_ok-spell_all-in-Scope-2-clause-args : goal.spell_form-returns-in_ok-spell_all-in-Scope-2-clause-args
spell_form-returns-in_ok-spell_all-in-Scope-2-clause-args t c d counts beside agrees tabled met =
    c.in_ok-spell_all-in-Scope.ensures.spells d counts beside agrees tabled met ∙ ap (λ part. part_args c.args.shorten beside (is_named d) (written_external counts) part (value_form_of c.args.op (trees_of c.args.args.now.items) (trees_of c.args.body.now.items)) (trees_of c.args.args.now.items) (get_or c.args.index.now.paths c.args.scope []))
    (c.in-Scope.ensures ∙ ap (λ ns. part_of c.args.op (trees_of ns) (trees_of c.deref-2.result.now)) c.deref.ensures.value ∙ ap (λ ns. part_of c.args.op (trees_of c.args.args.now.items) (trees_of ns)) c.deref-2.ensures.value)

pub spell_form-returns-in_ok-spell_all-in-Within-2-clause-args : goal.spell_form-returns-in_ok-spell_all-in-Within-2-clause-args
spell_form-returns-in_ok-spell_all-in-Within-2-clause-args t c d counts beside agrees tabled met =
    c.in_ok-spell_all-in-Within.ensures.spells d counts beside agrees tabled met ∙ ap (λ part. part_args c.args.shorten beside (is_named d) (written_external counts) part (value_form_of c.args.op (trees_of c.args.args.now.items) (trees_of c.args.body.now.items)) (trees_of c.args.args.now.items) (get_or c.args.index.now.paths c.args.scope []))
    (c.in-Within.ensures ∙ ap (λ ns. part_of c.args.op (trees_of ns) (trees_of c.deref-2.result.now)) c.deref.ensures.value ∙ ap (λ ns. part_of c.args.op (trees_of c.args.args.now.items) (trees_of ns)) c.deref-2.ensures.value)

pub spell_form-returns-in_ok-spell_all-in-Units-2-clause-args : goal.spell_form-returns-in_ok-spell_all-in-Units-2-clause-args
spell_form-returns-in_ok-spell_all-in-Units-2-clause-args t c d counts beside agrees tabled met =
    c.in_ok-spell_all-in-Units.ensures.spells d counts beside agrees tabled met ∙ ap (λ part. part_args c.args.shorten beside (is_named d) (written_external counts) part (value_form_of c.args.op (trees_of c.args.args.now.items) (trees_of c.args.body.now.items)) (trees_of c.args.args.now.items) (get_or c.args.index.now.paths c.args.scope []))
    (c.in-Units.ensures ∙ ap (λ ns. part_of c.args.op (trees_of ns) (trees_of c.deref-2.result.now)) c.deref.ensures.value ∙ ap (λ ns. part_of c.args.op (trees_of c.args.args.now.items) (trees_of ns)) c.deref-2.ensures.value)

pub spell_form-returns-in_ok-spell_external-in-External-clause-args : goal.spell_form-returns-in_ok-spell_external-in-External-clause-args
spell_form-returns-in_ok-spell_external-in-External-clause-args t c d counts beside agrees tabled met =
    c.in_ok-spell_external-in-External.ensures counts tabled ∙ ap (λ part. part_args c.args.shorten beside (is_named d) (written_external counts) part (value_form_of c.args.op (trees_of c.args.args.now.items) (trees_of c.args.body.now.items)) (trees_of c.args.args.now.items) (get_or c.args.index.now.paths c.args.scope []))
    (c.in-External.ensures ∙ ap (λ ns. part_of c.args.op (trees_of ns) (trees_of c.deref-2.result.now)) c.deref.ensures.value ∙ ap (λ ns. part_of c.args.op (trees_of c.args.args.now.items) (trees_of ns)) c.deref-2.ensures.value)

pub spell_form-returns-in_ok-spell_all-in-Within-2-clause-body : goal.spell_form-returns-in_ok-spell_all-in-Within-2-clause-body
spell_form-returns-in_ok-spell_all-in-Within-2-clause-body t c d counts beside agrees tabled met =
    all_before c.args.index.now.paths c.spell_all-in-Within.new.index.paths c.args.index.now.named.items c.spell_all-in-Within.new.index.named.items c.args.calls.now c.args.also.now
    (λ d counts beside s. spelled_all c.args.shorten beside (is_named d) (written_external counts) (trees_of c.args.body.now.items) s) (trees_of c.spell_all-in-Within-2.new.nodes.items) c.args.scope c.requires.scope_in c.in_ok-spell_all-in-Within.ensures.grows c.in_ok-spell_all-in-Within-2.ensures.spells d counts beside agrees tabled met
    ∙ ap (λ part. part_body c.args.shorten beside (is_named d) (written_external counts) part (value_form_of c.args.op (trees_of c.args.args.now.items) (trees_of c.args.body.now.items)) (trees_of c.args.args.now.items) (trees_of c.args.body.now.items) (get_or c.args.index.now.paths c.args.scope []))
    (c.in-Within.ensures ∙ ap (λ ns. part_of c.args.op (trees_of ns) (trees_of c.deref-2.result.now)) c.deref.ensures.value ∙ ap (λ ns. part_of c.args.op (trees_of c.args.args.now.items) (trees_of ns)) c.deref-2.ensures.value)

pub spell_form-returns-in_ok-spell_all-in-Units-2-clause-body : goal.spell_form-returns-in_ok-spell_all-in-Units-2-clause-body
spell_form-returns-in_ok-spell_all-in-Units-2-clause-body t c d counts beside agrees tabled met =
    all_before c.args.index.now.paths c.spell_all-in-Units.new.index.paths c.args.index.now.named.items c.spell_all-in-Units.new.index.named.items c.args.calls.now c.args.also.now
    (λ d counts beside s. spelled_all c.args.shorten beside (is_named d) (written_external counts) (trees_of c.args.body.now.items) s) (trees_of c.spell_all-in-Units-2.new.nodes.items) c.args.scope c.requires.scope_in c.in_ok-spell_all-in-Units.ensures.grows c.in_ok-spell_all-in-Units-2.ensures.spells d counts beside agrees tabled met
    ∙ ap (λ part. part_body c.args.shorten beside (is_named d) (written_external counts) part (value_form_of c.args.op (trees_of c.args.args.now.items) (trees_of c.args.body.now.items)) (trees_of c.args.args.now.items) (trees_of c.args.body.now.items) (get_or c.args.index.now.paths c.args.scope []))
    (c.in-Units.ensures ∙ ap (λ ns. part_of c.args.op (trees_of ns) (trees_of c.deref-2.result.now)) c.deref.ensures.value ∙ ap (λ ns. part_of c.args.op (trees_of c.args.args.now.items) (trees_of ns)) c.deref-2.ensures.value)

pub spell_form-returns-in_ok-spell_all-in-Scope-2-clause-body : goal.spell_form-returns-in_ok-spell_all-in-Scope-2-clause-body
spell_form-returns-in_ok-spell_all-in-Scope-2-clause-body t c d counts beside agrees tabled met =
    all_before c.args.index.now.paths c.spell_all.new.index.paths c.args.index.now.named.items c.spell_all.new.index.named.items c.args.calls.now c.args.also.now
    (λ d counts beside s. spelled_all c.args.shorten beside (is_named d) (written_external counts) (trees_of c.args.body.now.items) s) (trees_of c.spell_all-in-Scope.new.nodes.items) c.opened_place-inner.result c.opened_place-inner.ensures.within c.in_ok-spell_all-in-Scope.ensures.grows c.in_ok-spell_all-in-Scope-2.ensures.spells d counts beside agrees tabled met
    ∙ ap (spelled_all c.args.shorten beside (is_named d) (written_external counts) (trees_of c.args.body.now.items)) (c.opened_place-inner.ensures.path ∙ ap (λ ns. opened_at (is_named_in c.args.index.now.paths c.args.index.now.named.items) (trees_of ns) (get_or c.args.index.now.paths c.args.scope [])) c.deref-in-Scope.ensures.value
    ∙ opened_same (is_named_in c.args.index.now.paths c.args.index.now.named.items) (is_named d) agrees (trees_of c.args.args.now.items) (get_or c.args.index.now.paths c.args.scope []))
    ∙ ap (λ part. part_body c.args.shorten beside (is_named d) (written_external counts) part (value_form_of c.args.op (trees_of c.args.args.now.items) (trees_of c.args.body.now.items)) (trees_of c.args.args.now.items) (trees_of c.args.body.now.items) (get_or c.args.index.now.paths c.args.scope []))
    (c.in-Scope.ensures ∙ ap (λ ns. part_of c.args.op (trees_of ns) (trees_of c.deref-2.result.now)) c.deref.ensures.value ∙ ap (λ ns. part_of c.args.op (trees_of c.args.args.now.items) (trees_of ns)) c.deref-2.ensures.value)

pub spell_form-returns-in_ok-spell_all-in-Scope-2-clause-grows : goal.spell_form-returns-in_ok-spell_all-in-Scope-2-clause-grows
spell_form-returns-in_ok-spell_all-in-Scope-2-clause-grows t c =
    grows_then c.args.index.now.paths c.spell_all.new.index.paths c.spell_all-in-Scope.new.index.paths c.args.index.now.named.items c.spell_all.new.index.named.items c.spell_all-in-Scope.new.index.named.items c.args.calls.now c.args.also.now c.in_ok-spell_all-in-Scope.ensures.grows c.in_ok-spell_all-in-Scope-2.ensures.grows

pub spell_form-returns-in_ok-spell_all-in-Within-2-clause-grows : goal.spell_form-returns-in_ok-spell_all-in-Within-2-clause-grows
spell_form-returns-in_ok-spell_all-in-Within-2-clause-grows t c =
    grows_then c.args.index.now.paths c.spell_all-in-Within.new.index.paths c.spell_all-in-Within-2.new.index.paths c.args.index.now.named.items c.spell_all-in-Within.new.index.named.items c.spell_all-in-Within-2.new.index.named.items c.args.calls.now c.args.also.now c.in_ok-spell_all-in-Within.ensures.grows c.in_ok-spell_all-in-Within-2.ensures.grows

pub spell_form-returns-in_ok-spell_all-in-Units-2-clause-grows : goal.spell_form-returns-in_ok-spell_all-in-Units-2-clause-grows
spell_form-returns-in_ok-spell_all-in-Units-2-clause-grows t c =
    grows_then c.args.index.now.paths c.spell_all-in-Units.new.index.paths c.spell_all-in-Units-2.new.index.paths c.args.index.now.named.items c.spell_all-in-Units.new.index.named.items c.spell_all-in-Units-2.new.index.named.items c.args.calls.now c.args.also.now c.in_ok-spell_all-in-Units.ensures.grows c.in_ok-spell_all-in-Units-2.ensures.grows

pub spell_inner-returns-in_ok-spell_all-in-Call-clause-spells : goal.spell_inner-returns-in_ok-spell_all-in-Call-clause-spells
spell_inner-returns-in_ok-spell_all-in-Call-clause-spells t c d counts beside agrees tabled met =
    call_spelled c.args.shorten beside (is_named d) (written_external counts) (at_of c.args.node.now) (get_or c.args.index.now.paths c.args.scope []) c.args.node.now.term _ c.spell_name.new.name _ c.spell_all.new.nodes (call_is c.args.node.now.term c.in-Call.path _ c.in-Call.args _ c.in-Call.path-is c.in-Call.args-is c.in-Call.is)
    (c.in_ok-spell_name-in-Call.ensures ∙ spelled_use_same (is_named_in c.args.index.now.paths c.args.also.now) beside (is_named_in c.args.index.now.paths c.args.index.now.named.items) (is_named d) met agrees c.args.shorten _ (get_or c.args.index.now.paths c.args.scope [])) (c.in_ok-spell_all-in-Call.ensures.spells d counts beside agrees tabled met)

pub spell_inner-returns-in_ok-spell_form-in-Form-clause-spells : goal.spell_inner-returns-in_ok-spell_form-in-Form-clause-spells
spell_inner-returns-in_ok-spell_form-in-Form-clause-spells t c d counts beside agrees tabled met =
    form_spelled c.args.shorten beside (is_named d) (written_external counts) (at_of c.args.node.now) (get_or c.args.index.now.paths c.args.scope []) (arity_written counts) c.args.node.now.term _ _ _ c.spell_form.new.args c.spell_form.new.body (form_is c.args.node.now.term c.in-Form.op _ c.in-Form.args _ c.in-Form.body _ c.in-Form.op-is c.in-Form.args-is c.in-Form.body-is c.in-Form.is)
    (c.in_ok-spell_form-in-Form.ensures.args d counts beside agrees tabled met) (c.in_ok-spell_form-in-Form.ensures.body d counts beside agrees tabled met)

pub spell_inner-returns-in_default : goal.spell_inner-returns-in_default
spell_inner-returns-in_default t c =
    let shape = another c.args.node.now.term c.requires.unnamed c.in_default.not-Call c.in_default.not-Form in record {
      grows = grows_none c.args.index.now.paths c.args.index.now.named.items c.args.calls.now c.args.also.now c.requires.all;
      spells = λ d counts beside agrees tabled met. another_spelled c.args.shorten beside (is_named d) (written_external counts) (at_of c.args.node.now) (get_or c.args.index.now.paths c.args.scope []) c.args.node.now.term shape;
      places = refl;
    }

pub spell_inner-spell_all-requires : goal.spell_inner-spell_all-requires
spell_inner-spell_all-requires t c =
    let size = call_smaller c.args.node.now.term c.in-Call.path c.in-Call.args _ c.in-Call.is (ap (λ (v : Vec Node Global). v.items) c.in-Call.args-is) in (
      omega (arith, c.decreases, size),
      (c.requires.scope_in, (c.requires.all, (c.requires.short, c.requires.few))),
    )

pub spell_inner-spell_form-requires : goal.spell_inner-spell_form-requires
spell_inner-spell_form-requires t c =
    let size = form_smaller c.args.node.now.term c.in-Form.op c.in-Form.args c.in-Form.body _ _ c.in-Form.is (ap (λ (v : Vec Node Global). v.items) c.in-Form.args-is) (ap (λ (v : Vec Node Global). v.items) c.in-Form.body-is) in (
      omega (arith, c.decreases, size),
      (c.requires.scope_in, (c.requires.all, (c.requires.short, c.requires.few))),
    )

pub spell_item-returns-in_ok-spell_one-in_default : goal.spell_item-returns-in_ok-spell_one-in_default
spell_item-returns-in_ok-spell_one-in_default t c =
    let unnamed : path_of c.args.node.now.term ≡ None = search rules in record {
      grows = c.in_ok-spell_one-in_default.ensures.grows;
      places = c.in_ok-spell_one-in_default.ensures.places;
      spells = λ d counts beside agrees tabled met. c.in_ok-spell_one-in_default.ensures.spells d counts beside agrees tabled met
          ∙ sym (element_unnamed c.args.shorten beside (is_named d) (written_external counts) (at_of c.args.node.now) (get_or c.args.index.now.paths c.args.scope []) c.args.node.now.term (spelled c.args.shorten beside (is_named d) (written_external counts) (node_tree c.args.node.now) (get_or c.args.index.now.paths c.args.scope [])) unnamed);
    }

pub spell_declared-returns-clause-args : goal.spell_declared-returns-clause-args
spell_declared-returns-clause-args t c d counts beside agrees tabled met =
    all_before c.args.index.now.paths c.spell_inside.new.index.paths c.args.index.now.named.items c.spell_inside.new.index.named.items c.args.calls.now c.args.also.now
    (λ d counts beside s. spelled_but c.args.shorten beside (is_named d) (written_external counts) c.args.place (trees_of c.args.args.now.items) s) (trees_of c.spell_but.new.nodes.items) c.args.scope c.requires.scope_in c.in_ok-spell_inside.ensures.grows c.in_ok-spell_but.ensures.spells d counts beside agrees tabled met

pub spell_declared-returns-clause-grows : goal.spell_declared-returns-clause-grows
spell_declared-returns-clause-grows t c =
    grows_then c.args.index.now.paths c.spell_inside.new.index.paths c.spell_but.new.index.paths c.args.index.now.named.items c.spell_inside.new.index.named.items c.spell_but.new.index.named.items c.args.calls.now c.args.also.now c.in_ok-spell_inside.ensures.grows c.in_ok-spell_but.ensures.grows

pub spell_inside-returns-clause-body : goal.spell_inside-returns-clause-body
spell_inside-returns-clause-body t c d counts beside agrees tabled met =
    known_before c.args.index.now.paths c.declared_place.new.index.paths c.args.index.now.named.items c.declared_place.new.index.named.items c.args.calls.now c.args.also.now
    (λ d counts beside. trees_of c.spell_all.new.nodes.items ≡ spelled_all c.args.shorten beside (is_named d) (written_external counts) (trees_of c.args.body.now.items) (get_or c.declared_place.new.index.paths c.in_ok-inner.inner [])) c.in_ok-inner.ensures.grows c.in_ok-spell_all.ensures.spells d counts beside agrees tabled met
    ∙ ap (spelled_all c.args.shorten beside (is_named d) (written_external counts) (trees_of c.args.body.now.items)) c.in_ok-inner.ensures.path
    ∙ sym (ap (λ opens. opened_body c.args.shorten beside (is_named d) (written_external counts) opens (trees_of c.args.body.now.items) (place_at c.args.place (trees_of c.args.args.now) (get_or c.args.index.now.paths c.args.scope []))) c.if-not-opens.false)

pub spell_inside-returns-clause-grows : goal.spell_inside-returns-clause-grows
spell_inside-returns-clause-grows t c =
    grows_then c.args.index.now.paths c.declared_place.new.index.paths c.spell_all.new.index.paths c.args.index.now.named.items c.declared_place.new.index.named.items c.spell_all.new.index.named.items c.args.calls.now c.args.also.now c.in_ok-inner.ensures.grows c.in_ok-spell_all.ensures.grows

pub spell_one-returns-in_ok-spell_name-in-Name-clause-spells : goal.spell_one-returns-in_ok-spell_name-in-Name-clause-spells
spell_one-returns-in_ok-spell_name-in-Name-clause-spells t c d counts beside agrees tabled met =
    let scope = get_or c.args.index.now.paths c.args.scope [] in
    let met_there = is_named_in c.args.index.now.paths c.args.also.now in
    let named_there = is_named_in c.args.index.now.paths c.args.index.now.named.items in
    let rolled = V.rolls-Name c.in-Name.path in
    rw (c.in-Name.is ∙ sym rolled, D.out-roll-Term (D.Term-F.Name c.in-Name.path), rolled)
    (name_spelled c.args.shorten beside (is_named d) (written_external counts) (at_of c.args.node.now) scope (D.Name c.in-Name.path) c.in-Name.path c.spell_name.new.name refl
    (c.in_ok-spell_name-in-Name.ensures ∙ ap (λ p. spelled_use met_there named_there c.args.shorten p scope) c.in-Name.path-is ∙ spelled_use_same met_there beside named_there (is_named d) met agrees c.args.shorten c.in-Name.path scope))

pub spell_one-returns-in_ok-spell_name-in-Name-clause-grows : goal.spell_one-returns-in_ok-spell_name-in-Name-clause-grows
spell_one-returns-in_ok-spell_name-in-Name-clause-grows t c = grows_none c.args.index.now.paths c.args.index.now.named.items c.args.calls.now c.args.also.now c.requires.all

pub spell_one-returns-in_default : goal.spell_one-returns-in_default
spell_one-returns-in_default t c =
    let unnamed : path_of c.args.node.now.term ≡ None = unnamed_is c.args.node.now.term c.in_default.not-Name in
    let shape = another c.args.node.now.term unnamed c.in_default.not-Call c.in_default.not-Form in record {
      grows = grows_none c.args.index.now.paths c.args.index.now.named.items c.args.calls.now c.args.also.now c.requires.all;
      spells = λ d counts beside agrees tabled met. another_spelled c.args.shorten beside (is_named d) (written_external counts) (at_of c.args.node.now) (get_or c.args.index.now.paths c.args.scope []) c.args.node.now.term shape;
      places = refl;
    }

pub spell_item-returns-in-None-clause-spells : goal.spell_item-returns-in-None-clause-spells
spell_item-returns-in-None-clause-spells t c d counts beside agrees tabled met =
    element_kept c.args.shorten beside (is_named d) (written_external counts) (at_of c.args.node.now) (get_or c.args.index.now.paths c.args.scope []) c.args.node.now.term c.in-Name.path (spelled c.args.shorten beside (is_named d) (written_external counts) (node_tree c.args.node.now) (get_or c.args.index.now.paths c.args.scope [])) c.in-Name.is
    (sym (ap (λ o. unwrap_or o c.in-Name.path) c.in-None.is) ∙ c.in_ok-other-in-Name.ensures ∙ spelled_item_same (is_named_in c.args.index.now.paths c.args.index.now.named.items) (is_named d) agrees c.args.shorten c.in-Name.path (get_or c.args.index.now.paths c.args.scope []))

pub spell_item-returns-in-Some-clause-spells : goal.spell_item-returns-in-Some-clause-spells
spell_item-returns-in-Some-clause-spells t c d counts beside agrees tabled met =
    element_named c.args.shorten beside (is_named d) (written_external counts) (at_of c.args.node.now) (get_or c.args.index.now.paths c.args.scope []) c.args.node.now.term c.in-Name.path c.in-Some.other (spelled c.args.shorten beside (is_named d) (written_external counts) (node_tree c.args.node.now) (get_or c.args.index.now.paths c.args.scope [])) c.in-Name.is
    (sym (ap (λ o. unwrap_or o c.in-Name.path) c.in-Some.is) ∙ c.in_ok-other-in-Name.ensures ∙ spelled_item_same (is_named_in c.args.index.now.paths c.args.index.now.named.items) (is_named d) agrees c.args.shorten c.in-Name.path (get_or c.args.index.now.paths c.args.scope []))

pub spell_all-returns-clause-places : goal.spell_all-returns-clause-places
spell_all-returns-clause-places t c =
    ap places_of (front_only c.loop-node.node-items _ c.args.nodes.now.len (omega (arith, c.deref_mut-node-items.ensures.len, c.loop-node.auto.node-items)))
    ∙ c.loop-node.invariant.places ∙ ap places_of c.deref_mut-node-items.ensures.value

pub spell_elements-returns-clause-places : goal.spell_elements-returns-clause-places
spell_elements-returns-clause-places t c =
    ap places_of (front_only c.loop-node.node-items _ c.args.nodes.now.len (omega (arith, c.deref_mut-node-items.ensures.len, c.loop-node.auto.node-items)))
    ∙ c.loop-node.invariant.places ∙ ap places_of c.deref_mut-node-items.ensures.value

pub spell_item-returns-in-Some-clause-places : goal.spell_item-returns-in-Some-clause-places
spell_item-returns-in-Some-clause-places t c = name_places c.args.node.now.place c.args.node.now.term c.in-Name.path c.in-Some.other c.in-Name.is

pub spell_one-returns-in_ok-spell_name-in-Name-clause-places : goal.spell_one-returns-in_ok-spell_name-in-Name-clause-places
spell_one-returns-in_ok-spell_name-in-Name-clause-places t c =
    let rolled = V.rolls-Name c.in-Name.path in
    rw (c.in-Name.is ∙ sym rolled, D.out-roll-Term (D.Term-F.Name c.in-Name.path), rolled)
    (name_places c.args.node.now.place (D.Name c.in-Name.path) c.in-Name.path c.spell_name.new.name refl)

pub spell_inner-returns-in_ok-spell_all-in-Call-clause-places : goal.spell_inner-returns-in_ok-spell_all-in-Call-clause-places
spell_inner-returns-in_ok-spell_all-in-Call-clause-places t c =
    call_places c.args.node.now.place c.args.node.now.term _ c.spell_name.new.name _ c.spell_all.new.nodes (call_is c.args.node.now.term c.in-Call.path _ c.in-Call.args _ c.in-Call.path-is c.in-Call.args-is c.in-Call.is)

pub spell_inner-returns-in_ok-spell_form-in-Form-clause-places : goal.spell_inner-returns-in_ok-spell_form-in-Form-clause-places
spell_inner-returns-in_ok-spell_form-in-Form-clause-places t c =
    form_same_places c.args.node.now.place c.args.node.now.term _ _ _ c.spell_form.new.args c.spell_form.new.body (form_is c.args.node.now.term c.in-Form.op _ c.in-Form.args _ c.in-Form.body _ c.in-Form.op-is c.in-Form.args-is c.in-Form.body-is c.in-Form.is) c.in_ok-spell_form-in-Form.ensures.places
