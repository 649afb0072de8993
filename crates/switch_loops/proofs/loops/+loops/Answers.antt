use Rattle.std.proofs.Common.{◌≡◌, true, false, [], ◌∷◌, ◌++◌, Vec, Global, reverse, refl, sym, ap, subst, drop, ◌∙◌, arith}
use Rattle.std.specs.Prelude.{if◌then◌else◌, nat_eq}
use Rattle.asl_tree.specs.declared.term.Node.{Node}
use Rattle.asl_tree.specs.View.{trees_of}
use Rattle.acpi_names.specs.Walked.{node_tree, term_shape}
use Rattle.acpi_names.proofs.Folds.{at_of}
use Rattle.acpi_names.proofs.Trees.{form_smaller}
use Rattle.asl_lower.specs.Nests.{backwards}
use Rattle.term_places.specs.Places.{places_of}
use Rattle.term_places.proofs.Places.{no_places}
use Rattle.asl_lower.proofs.Backwards.{pushed}
use Rattle.asl_lower.proofs.Lowered.{popped_size}
use Rattle.asl_lower.proofs.Turns.{turns_none, turns_next, turn_smaller, front_only, form_is}
use Rattle.hidden_locals.specs.Locals.{locals_all}
use Rattle.hidden_locals.specs.Switches.{case_test, depth_all}
use Rattle.hidden_locals.specs.Turns.{local, nth}
use Rattle.switch_loops.specs.Braces.{braces_of}
use Rattle.switch_loops.specs.Found.{IsSoIn}
use Rattle.switch_loops.specs.Given.{IsGiven, AreGiven}
use Rattle.switch_loops.specs.Kept.{all_kept}
use Rattle.switch_loops.specs.Kinds.{form_kind, shape_kind}
use Rattle.switch_loops.specs.Links.{linked, behind, looped_all, put as put_tree}
use Rattle.switch_loops.specs.Measures.{capped}
use Rattle.switch_loops.specs.Places.{default_node_places, looped_places}
use Rattle.switch_loops.specs.Reads.{marked_all, none_named, others_of}
use Rattle.switch_loops.specs.declared.braces.Braces.{Braces}
use Rattle.switch_loops.specs.declared.found.Found.{Found}
use Rattle.switch_loops.specs.declared.kind.TermRole.{TermRole}
use Rattle.switch_loops.proofs.Findings.{nothing_whole, methods_whole}
use Rattle.switch_loops.proofs.InPlace.{IsLooped, each_looped, flat_looped, flat_placed, form_looped_at, form_placed_at, kept_next, method_holds, method_inside, method_within, other_holds, other_within, terms_hold, terms_within}
use Rattle.switch_loops.proofs.Keeping.{continue_at, continue_node, kept_other}
use Rattle.switch_loops.proofs.LoopPlaces.{case_placed, flat_case, not_case, other_braces, term_braces, places_none, places_next, places_end, case_tested, cases_none, cases_next, chain_end, first_places}
use Rattle.switch_loops.proofs.MadeRows.{pushed_places}
use Rattle.switch_loops.proofs.Puts.{form_is as tree_is, body_is, flat_body, flat_unlinked, put_none, put_next, put_end, given_popped, case_is, form_unlinked, case_linked, popped_first, link_none, link_next, link_end, default_is_last, cases_given, given_next, default_given}
use Rattle.switch_loops.proofs.Sizes.{cases_fit, default_fits, next_size}
use Rattle.switch_loops.proofs.Unneeded.{whole_with}
use Rattle.switch_loops.proofs.loops.+loops.Goals as goal

-- ---- a method's terms, or a block's

pub loops_of-returns-in-Nothing : goal.loops_of-returns-in-Nothing
loops_of-returns-in-Nothing t c =
    let found = subst (IsSoIn Found.Nothing) c.deref.ensures.value (subst (λ f. IsSoIn f c.deref.result.now) c.in-Nothing.is c.found_in.ensures) in
    record { trees = λ g. nothing_whole c.args.terms.now.items found; places = sym found.1 }

pub loops_of-returns-in_ok-loops_in-in-Methods-clause-trees : goal.loops_of-returns-in_ok-loops_in-in-Methods-clause-trees
loops_of-returns-in_ok-loops_in-in-Methods-clause-trees t c g =
    let found = subst (IsSoIn Found.Methods) c.deref.ensures.value (subst (λ f. IsSoIn f c.deref.result.now) c.in-Methods.is c.found_in.ensures) in
    c.in_ok-loops_in-in-Methods.ensures.trees g ∙ methods_whole c.args.terms.now.items 0 [] found

pub loops_of-returns-in_ok-loops_in-in-Switch-clause-trees : goal.loops_of-returns-in_ok-loops_in-in-Switch-clause-trees
loops_of-returns-in_ok-loops_in-in-Switch-clause-trees t c g =
    c.in_ok-loops_in-in-Switch.ensures.trees g ∙ ap (λ xs. looped_all c.local_at-flag.result xs false (trees_of c.args.terms.now.items)) c.deref-in-Switch-4.ensures.value
    ∙ whole_with c.local_at-flag.result c.measure_all-levels.result.levels _ (trees_of c.args.terms.now.items)
    (c.in_ok-free-in-Switch.ensures ∙ ap (λ ns. if nat_eq c.measure_all-levels.result.levels 0 then [] else others_of (marked_all none_named (locals_all (trees_of ns)))) c.deref-in-Switch-2.ensures.value)
    (ap (λ m. m.levels) c.measure_all-levels.ensures ∙ ap (λ ns. capped (depth_all (trees_of ns))) c.deref-in-Switch.ensures.value) (c.local_at-flag.ensures ∙ ap (λ xs. nth xs c.measure_all-levels.result.levels) c.deref-in-Switch-3.ensures.value)

-- ---- the terms of a list

pub loops_in-loops_within-requires : goal.loops_in-loops_within-requires
loops_in-loops_within-requires t c = (omega (arith, c.decreases), sym (ap (all_kept c.args.inside) c.deref.ensures.value) ∙ c.all_keep.ensures c.if-all_keep.true)

pub loops_within-loop-node-init : goal.loops_within-loop-node-init
loops_within-loop-node-init t c = turns_none (λ k. IsLooped c.args.flag c.args.values.now c.args.inside) c.deref_mut-node-items.result.now

pub loops_within-loops_at-requires : goal.loops_within-loops_at-requires
loops_within-loops_at-requires t c = (
  omega (arith, c.decreases, turn_smaller (λ k. IsLooped c.args.flag c.args.values.now c.args.inside) c.deref_mut-node-items.result.now c.loop-node.node-items c.args.terms.now.items c.loop-node.node-index c.node-item.result c.loop-node.invariant c.loop-node-test.true c.node-item.is c.deref_mut-node-items.ensures.value),
  kept_next c.args.flag c.args.values.now c.args.inside c.deref_mut-node-items.result.now c.loop-node.node-items c.args.terms.now.items c.loop-node.node-index c.node-item.result c.loop-node.invariant c.loop-node-test.true c.node-item.is c.deref_mut-node-items.ensures.value c.requires,
)

pub loops_within-loop-node-preserved : goal.loops_within-loop-node-preserved
loops_within-loop-node-preserved t c =
    turns_next (λ k. IsLooped c.args.flag c.args.values.now c.args.inside) c.deref_mut-node-items.result.now c.loop-node.node-items c.loop-node.node-index c.node-item.result c.loops_at.new.node c.loop-node-test.true c.loop-node.invariant
    (record { is = c.in_ok-loops_at.ensures.tree; places = c.in_ok-loops_at.ensures.places })

pub loops_within-returns-clause-trees : goal.loops_within-returns-clause-trees
loops_within-returns-clause-trees t c g =
    ap trees_of (front_only c.loop-node.node-items _ c.args.terms.now.len (omega (arith, c.deref_mut-node-items.ensures.len, c.loop-node.auto.node-items)))
    ∙ (each_looped c.args.flag c.args.values.now c.args.inside c.deref_mut-node-items.result.now c.loop-node.node-items c.loop-node.node-index c.loop-node-test.false c.loop-node.invariant).0 (subst (λ ns. AreGiven (trees_of ns)) (sym c.deref_mut-node-items.ensures.value) g)
    ∙ ap (λ ns. looped_all c.args.flag c.args.values.now c.args.inside (trees_of ns)) c.deref_mut-node-items.ensures.value

pub loops_within-returns-clause-places : goal.loops_within-returns-clause-places
loops_within-returns-clause-places t c =
    ap places_of (front_only c.loop-node.node-items _ c.args.terms.now.len (omega (arith, c.deref_mut-node-items.ensures.len, c.loop-node.auto.node-items)))
    ∙ (each_looped c.args.flag c.args.values.now c.args.inside c.deref_mut-node-items.result.now c.loop-node.node-items c.loop-node.node-index c.loop-node-test.false c.loop-node.invariant).1
    ∙ ap (looped_places c.args.inside) c.deref_mut-node-items.ensures.value

-- ---- a term that keeps its place

pub loops_at-in_braces-requires : goal.loops_at-in_braces-requires
loops_at-in_braces-requires t c =
    let size = form_smaller c.args.node.now.term c.in-Form.op c.in-Form._args c.in-Form.body _ _ c.in-Form.is refl (ap (λ (v : Vec Node Global). v.items) c.in-Form.body-is) in omega (arith, c.decreases, size)

pub loops_at-returns-in_ok-in_braces-in-Form : goal.loops_at-returns-in_ok-in_braces-in-Form
loops_at-returns-in_ok-in_braces-in-Form t c =
    let is = form_is c.args.node.now.term c.in-Form.op _ c.in-Form._args _ c.in-Form.body _ c.in-Form.op-is c.in-Form._args-is c.in-Form.body-is c.in-Form.is in record {
      tree = form_looped_at c.args.flag c.args.values.now c.args.inside (at_of c.args.node.now) c.args.node.now.term _ _ _ c.in_braces.new.body is c.requires c.in_ok-in_braces-in-Form.ensures.trees;
      places = form_placed_at c.args.inside c.args.node.now.place c.args.node.now.term _ _ _ c.in_braces.new.body is c.requires c.in_ok-in_braces-in-Form.ensures.places;
    }

pub loops_at-returns-in_default : goal.loops_at-returns-in_default
loops_at-returns-in_default t c = record {
  tree = λ g rest. flat_looped c.args.flag c.args.values.now c.args.inside (at_of c.args.node.now) c.args.node.now.term rest c.in_default.not-Form;
  places = flat_placed c.args.inside c.args.node.now.place c.args.node.now.term c.in_default.not-Form;
}

pub in_braces-returns-in_ok-loops_in-in-Terms : goal.in_braces-returns-in_ok-loops_in-in-Terms
in_braces-returns-in_ok-loops_in-in-Terms t c =
    let is = sym c.braces_of.ensures ∙ c.in-Terms.is in record {
      trees = λ g. c.in_ok-loops_in-in-Terms.ensures.trees (g (terms_hold c.args.op is)) ∙ ap (λ b. looped_all c.args.flag c.args.values.now b (trees_of c.args.body.now.items)) c.stays_inside.ensures ∙ sym (terms_within c.args.flag c.args.values.now c.args.inside c.args.op (trees_of c.args.body.now.items) is);
      places = λ h. c.in_ok-loops_in-in-Terms.ensures.places ∙ ap (λ b. looped_places b c.args.body.now.items) c.stays_inside.ensures;
    }

pub in_braces-returns-in_ok-loops_of-in-Method : goal.in_braces-returns-in_ok-loops_of-in-Method
in_braces-returns-in_ok-loops_of-in-Method t c =
    let is = sym c.braces_of.ensures ∙ c.in-Method.is in record {
      trees = λ g. c.in_ok-loops_of-in-Method.ensures.trees (g (method_holds c.args.op is)) ∙ sym (method_within c.args.flag c.args.values.now c.args.inside c.args.op (trees_of c.args.body.now.items) is);
      places = λ h. c.in_ok-loops_of-in-Method.ensures.places ∙ ap (λ b. looped_places b c.args.body.now.items) (sym (method_inside c.args.op c.args.inside is));
    }

pub in_braces-returns-in_default : goal.in_braces-returns-in_default
in_braces-returns-in_default t c =
    let not_terms : braces_of c.args.op ≡ Braces.Terms → ⊥ = λ e. c.in_default.not-Terms (c.braces_of.ensures ∙ e) in
    let not_method : braces_of c.args.op ≡ Braces.Method → ⊥ = λ e. c.in_default.not-Method (c.braces_of.ensures ∙ e) in record {
      trees = λ g. sym (other_within c.args.flag c.args.values.now c.args.inside c.args.op (trees_of c.args.body.now.items) not_terms not_method);
      places = λ h. absurd (other_holds c.args.op not_terms not_method h);
    }

-- ---- a list in which terms give way to others

pub loops_for-loop-node-init : goal.loops_for-loop-node-init
loops_for-loop-node-init t c = record {
  trees = λ g. put_none c.args.flag c.args.values.now c.args.inside c.args.terms.items c.in_ok-made.made.items c.in_ok-made.ensures.items;
  given = λ g. g;
  size = omega arith;
  places = places_none c.args.inside c.args.terms.items c.in_ok-made.made.items c.in_ok-made.ensures.items;
}

pub loops_for-put-requires : goal.loops_for-put-requires
loops_for-put-requires t c =
    let size = popped_size c.loop-node.left.items c.pop.new.self.items c.in-Some.node c.in-Some.ensures.items in omega (arith, c.decreases, c.loop-node.invariant.size, size)

pub loops_for-loop-node-preserved : goal.loops_for-loop-node-preserved
loops_for-loop-node-preserved t c =
    let size = popped_size c.loop-node.left.items c.pop.new.self.items c.in-Some.node c.in-Some.ensures.items in record {
      trees = λ g. put_next c.args.flag c.args.values.now c.args.inside c.loop-node.left.items c.pop.new.self.items c.loop-node.made.items c.put.new.made.items c.in-Some.node _ c.in-Some.ensures.items
          (c.in_ok-put.ensures.trees (given_popped c.loop-node.left.items c.pop.new.self.items c.in-Some.node c.in-Some.ensures.items (c.loop-node.invariant.given g)).1) (c.loop-node.invariant.trees g);
      given = λ g. (given_popped c.loop-node.left.items c.pop.new.self.items c.in-Some.node c.in-Some.ensures.items (c.loop-node.invariant.given g)).0;
      size = omega (arith, c.loop-node.invariant.size, size);
      places = places_next c.args.inside c.loop-node.left.items c.pop.new.self.items c.loop-node.made.items c.put.new.made.items c.in-Some.node _ c.in-Some.ensures.items c.in_ok-put.ensures.places c.loop-node.invariant.places;
    }

pub loops_for-returns-clause-trees : goal.loops_for-returns-clause-trees
loops_for-returns-clause-trees t c g =
    ap trees_of c.reverse.ensures.items ∙ put_end c.args.flag c.args.values.now c.args.inside c.loop-node.left.items _ (omega (arith, c.in_default.ensures.cases.0)) ∙ c.loop-node.invariant.trees g

pub loops_for-returns-clause-places : goal.loops_for-returns-clause-places
loops_for-returns-clause-places t c =
    ap places_of c.reverse.ensures.items ∙ places_end c.args.inside c.loop-node.left.items _ (omega (arith, c.in_default.ensures.cases.0)) ∙ c.loop-node.invariant.places

-- ---- a term

pub put-put_switch-requires : goal.put-put_switch-requires
put-put_switch-requires t c = omega (arith, c.decreases, c.parts-value.ensures.size)

pub put-parts-value-requires : goal.put-parts-value-requires
put-parts-value-requires t c = sym c.kind_of.ensures ∙ c.in-Switch.is

pub put-returns-in_ok-put_switch-in-Switch : goal.put-returns-in_ok-put_switch-in-Switch
put-returns-in_ok-put_switch-in-Switch t c = record {
  trees = λ g. let given = subst IsGiven c.parts-value.ensures.tree g in
      c.in_ok-put_switch-in-Switch.ensures.trees given.0 given.1 ∙ ap (λ tr. put_tree c.args.flag c.args.values.now c.args.inside tr (backwards c.args.made.now.items)) (sym c.parts-value.ensures.tree);
  places = c.in_ok-put_switch-in-Switch.ensures.places ∙ ap (λ ps. ps ++ places_of (reverse c.args.made.now.items)) (sym (c.parts-value.ensures.places c.args.inside));
}

pub put-returns-in_ok-put_continue-in-Continue : goal.put-returns-in_ok-put_continue-in-Continue
put-returns-in_ok-put_continue-in-Continue t c =
    let is = sym c.kind_of.ensures ∙ c.in-Continue.is in record {
      trees = λ g. c.in_ok-put_continue-in-Continue.ensures.trees ∙ continue_node c.args.flag c.args.values.now c.args.inside c.args.node (backwards c.args.made.now.items) is;
      places = c.in_ok-put_continue-in-Continue.ensures.places ∙ ap (λ ps. ps ++ places_of (reverse c.args.made.now.items)) (continue_at c.args.inside c.args.node.place c.args.node.term is);
    }

pub put-loops_at-requires : goal.put-loops_at-requires
put-loops_at-requires t c = (omega (arith, c.decreases), kept_other c.args.inside (shape_kind (term_shape c.args.node.term)) (λ e. c.in_default.not-Switch (c.kind_of.ensures ∙ e)) (λ e. c.in_default.not-Continue (c.kind_of.ensures ∙ e)))

pub put-returns-in_ok-push-in_default : goal.put-returns-in_ok-push-in_default
put-returns-in_ok-push-in_default t c = record {
  trees = λ g. pushed c.args.made.now.items c.push.new.self.items c.loops_at.new.node c.in_ok-push-in_default.ensures.items ∙ c.in_ok-loops_at-in_default.ensures.tree g (backwards c.args.made.now.items);
  places = pushed_places c.args.made.now.items c.push.new.self.items c.loops_at.new.node c.in_ok-push-in_default.ensures.items ∙ ap (λ ps. ps ++ places_of (reverse c.args.made.now.items)) c.in_ok-loops_at-in_default.ensures.places;
}

-- ---- the chain of a Switch

pub chain-default_of-requires : goal.chain-default_of-requires
chain-default_of-requires t c = let size = default_fits c.args.nodes.items c.in_ok-split.split.default c.in_ok-split.ensures.default in omega (arith, c.decreases, size)

pub chain-loop-node-init : goal.chain-loop-node-init
chain-loop-node-init t c = record {
  trees = λ g. link_none c.args.flag c.args.values.now c.args.nodes.items c.in_ok-split.split.cases.items c.in_ok-tests.tests.items _ c.in_ok-split.ensures.cases c.in_ok-tests.ensures.items;
  given = λ g. cases_given c.args.nodes.items c.in_ok-split.split.cases.items c.in_ok-split.ensures.cases g;
  size = cases_fit c.args.nodes.items c.in_ok-split.split.cases.items c.in_ok-split.ensures.cases;
  places = cases_none c.args.nodes.items c.in_ok-split.split.cases.items _ c.in_ok-split.ensures.cases (ap places_of c.in_ok-tests.ensures.items ∙ no_places);
  otherwise = λ g. default_is_last c.args.flag c.args.values.now c.args.nodes.items c.in_ok-split.split.default _ c.in_ok-split.ensures.default (c.in_ok-default.ensures.trees (default_given c.args.nodes.items c.in_ok-split.split.default c.in_ok-split.ensures.default g));
  otherwise_place = c.in_ok-default.ensures.places ∙ ap default_node_places c.in_ok-split.ensures.default ∙ sym (first_places c.args.nodes.items);
}

pub chain-put_case-requires : goal.chain-put_case-requires
chain-put_case-requires t c =
    let size = next_size c.loop-node.left.items c.pop.new.self.items c.in-Some.node (popped_first c.loop-node.left.items c.pop.new.self.items c.in-Some.node c.in-Some.ensures.items) in omega (arith, c.decreases, c.loop-node.invariant.size, size)

pub chain-loop-node-preserved : goal.chain-loop-node-preserved
chain-loop-node-preserved t c =
    let first = popped_first c.loop-node.left.items c.pop.new.self.items c.in-Some.node c.in-Some.ensures.items in
    let size = next_size c.loop-node.left.items c.pop.new.self.items c.in-Some.node first in record {
      trees = λ g. link_next c.args.flag c.args.values.now c.loop-node.left.items c.pop.new.self.items c.loop-node.tests.items c.put_case.new.tests.items c.in-Some.node _ _ first
          (c.in_ok-put_case.ensures.trees (given_next c.loop-node.left.items c.pop.new.self.items c.in-Some.node first (c.loop-node.invariant.given g)).0) (c.loop-node.invariant.trees g);
      given = λ g. (given_next c.loop-node.left.items c.pop.new.self.items c.in-Some.node first (c.loop-node.invariant.given g)).1;
      size = omega (arith, c.loop-node.invariant.size, size);
      places = cases_next c.loop-node.left.items c.pop.new.self.items c.in-Some.node _ _ _ first c.in_ok-put_case.ensures.places c.loop-node.invariant.places;
      otherwise = c.loop-node.invariant.otherwise;
      otherwise_place = c.loop-node.invariant.otherwise_place;
    }

pub chain-returns-clause-trees : goal.chain-returns-clause-trees
chain-returns-clause-trees t c g =
    c.in_ok-chain.ensures.trees ∙ ap (behind (trees_of c.loop-node.tests.items)) (c.loop-node.invariant.otherwise g)
    ∙ link_end c.args.flag c.args.values.now c.loop-node.left.items c.loop-node.tests.items _ _ (omega (arith, c.in_default.ensures.cases.0)) (c.loop-node.invariant.trees g)

pub chain-returns-clause-places : goal.chain-returns-clause-places
chain-returns-clause-places t c =
    chain_end c.loop-node.left.items c.args.nodes.items _ _ _ _ c.in_ok-chain.ensures.places (omega (arith, c.in_default.ensures.cases.0)) c.loop-node.invariant.places c.loop-node.invariant.otherwise_place

-- ---- a Default

pub terms_of-loops_in-requires : goal.terms_of-loops_in-requires
terms_of-loops_in-requires t c = omega (arith, c.decreases, form_smaller c.args.term c.in-Form._op c.in-Form._args c.in-Form.body c.in-Form._args.items c.in-Form.body.items c.in-Form.is refl refl)

pub terms_of-returns-in-Form-clause-trees : goal.terms_of-returns-in-Form-clause-trees
terms_of-returns-in-Form-clause-trees t c g =
    let body = body_is c.args.term c.in-Form._op c.in-Form._args c.in-Form.body c.in-Form.is in
    c.in_ok-loops_in-in-Form.ensures.trees (subst AreGiven body g) ∙ ap (λ xs. looped_all c.args.flag xs true (trees_of c.in-Form.body.items)) c.later.ensures ∙ ap (looped_all c.args.flag (drop 1 c.args.values.now) true) (sym body)

pub terms_of-returns-in-Form-clause-places : goal.terms_of-returns-in-Form-clause-places
terms_of-returns-in-Form-clause-places t c = c.in_ok-loops_in-in-Form.ensures.places ∙ term_braces c.args.term c.in-Form._op c.in-Form._args c.in-Form.body c.in-Form.is

pub terms_of-returns : goal.terms_of-returns
terms_of-returns t c = record {
  trees = λ g. flat_body c.args.flag (drop 1 c.args.values.now) c.args.term c.new.result.items c.in_default.not-Form c.new.ensures.items;
  places = ap places_of c.new.ensures.items ∙ no_places ∙ sym (other_braces c.args.term c.in_default.not-Form);
}

-- ---- a Case

pub put_case-put_form-requires : goal.put_case-put_form-requires
put_case-put_form-requires t c = omega (arith, c.decreases, form_smaller c.args.node.term c.in-Form.op c.in-Form.args c.in-Form.body c.in-Form.args.items c.in-Form.body.items c.in-Form.is refl refl)

pub put_case-returns-in-Form-clause-trees : goal.put_case-returns-in-Form-clause-trees
put_case-returns-in-Form-clause-trees t c g = λ branches.
    let same = tree_is (record { id = c.args.node.id; place = c.args.node.place }) c.args.node.term c.in-Form.op c.in-Form.args c.in-Form.body c.in-Form.is in
    c.in_ok-put_form-in-Form.ensures.trees (subst IsGiven same g) branches ∙ ap (λ tr. behind (trees_of c.args.tests.now.items) (linked c.args.flag c.args.values.now tr branches)) (sym same)

pub put_case-returns-in-Form-clause-places : goal.put_case-returns-in-Form-clause-places
put_case-returns-in-Form-clause-places t c =
    c.in_ok-put_form-in-Form.ensures.places ∙ ap (λ ps. places_of c.args.tests.now.items ++ ps) (case_placed c.args.node.term c.in-Form.op c.in-Form.args c.in-Form.body c.args.node.place c.in-Form.is)

pub put_case-returns : goal.put_case-returns
put_case-returns t c = record {
  trees = λ g branches. ap (behind (trees_of c.args.tests.now.items)) (flat_unlinked c.args.flag c.args.values.now c.args.node branches c.in_default.not-Form);
  places = flat_case c.args.node.term c.args.node.place (places_of c.args.tests.now.items) c.in_default.not-Form;
}

pub put_form-only-requires : goal.put_form-only-requires
put_form-only-requires t c = (case_is c.args.op c.args.args.items c.args.body.items (sym (c.in-Case.ensures ∙ ap (λ ns. form_kind c.args.op (trees_of ns) (trees_of c.deref-2.result.now)) c.deref.ensures.value ∙ ap (λ ns. form_kind c.args.op (trees_of c.args.args.items) (trees_of ns)) c.deref-2.ensures.value))).1

pub put_form-returns-in_ok-put_test-in-Case : goal.put_form-returns-in_ok-put_test-in-Case
put_form-returns-in_ok-put_test-in-Case t c =
    let kind : form_kind c.args.op (trees_of c.args.args.items) (trees_of c.args.body.items) ≡ TermRole.Case =
    sym (c.in-Case.ensures ∙ ap (λ ns. form_kind c.args.op (trees_of ns) (trees_of c.deref-2.result.now)) c.deref.ensures.value ∙ ap (λ ns. form_kind c.args.op (trees_of c.args.args.items) (trees_of ns)) c.deref-2.ensures.value) in record {
      trees = λ g branches. c.in_ok-put_test-in-Case.ensures.trees branches
          ∙ ap (behind (trees_of c.args.tests.now.items))
          (case_linked c.args.flag c.args.values.now (record { id = c.args.origin.id; place = c.args.origin.place }) c.args.op c.args.args.items c.args.body.items c.only.result (node_tree c.in_ok-test-in-Case.test) (trees_of c.loops_in.new.terms.items) branches
          kind c.only.ensures (λ h. c.in_ok-test-in-Case.ensures h ∙ ap (λ i. case_test (local i) (node_tree c.only.result)) c.local_at.ensures)
          (λ h. c.in_ok-loops_in-in-Case.ensures.trees h ∙ ap (λ xs. looped_all c.args.flag xs true (trees_of c.args.body.items)) c.later.ensures) g);
      places = c.in_ok-put_test-in-Case.ensures.places
          ∙ ap (λ ps. places_of c.args.tests.now.items ++ ps) (ap (λ ps. c.args.origin.place ∷ ps) c.in_ok-loops_in-in-Case.ensures.places ∙ case_tested _ c.args.origin.place (looped_places true c.args.body.items) kind);
    }

pub put_form-returns-in_default : goal.put_form-returns-in_default
put_form-returns-in_default t c =
    let never : form_kind c.args.op (trees_of c.args.args.items) (trees_of c.args.body.items) ≡ TermRole.Case → ⊥ = λ e.
    c.in_default.not-Case (c.form_kind.ensures ∙ ap (λ ns. form_kind c.args.op (trees_of ns) (trees_of c.deref-2.result.now)) c.deref.ensures.value ∙ ap (λ ns. form_kind c.args.op (trees_of c.args.args.items) (trees_of ns)) c.deref-2.ensures.value ∙ e) in record {
      trees = λ g branches. ap (behind (trees_of c.args.tests.now.items)) (form_unlinked c.args.flag c.args.values.now (record { id = c.args.origin.id; place = c.args.origin.place }) c.args.op (trees_of c.args.args.items) (trees_of c.args.body.items) branches never);
      places = not_case (form_kind c.args.op (trees_of c.args.args.items) (trees_of c.args.body.items)) c.args.origin.place (looped_places true c.args.body.items) (places_of c.args.tests.now.items) never;
    }
