use Rattle.std.proofs.Common.{◌≡◌, true, [], ◌∷◌, length, get_or, Vec, Global, refl, sym, ap, ◌∙◌, arith}
use Rattle.acpi_values.specs.Operators.{row_of}
use Rattle.asl_tree.specs.declared.term.Node.{Node}
use Rattle.asl_tree.specs.declared.term.Term as D
use Rattle.asl_tree.specs.declared.term.Term.TheVariants as V
use Rattle.term_places.specs.Places.{places_of}
use Rattle.asl_tree.specs.View.{fits, trees_of}
use Rattle.acpi_names.specs.Walked.{term_shape}
use Rattle.acpi_names.proofs.Folds.{at_of}
use Rattle.acpi_names.proofs.Trees.{call_smaller, form_smaller}
use Rattle.asl_lower.specs.Kinds.{shape_kind}
use Rattle.asl_lower.specs.Nodes.{named_all}
use Rattle.asl_lower.proofs.Turns.{turns_none, turns_next, turn_smaller, front_only, form_is}
use Rattle.asl_lower.proofs.Lowered.{IsLowered, each_lowered, call_named, form_named, other_named, kept_named, symbol_misfits, symbol_bare, assign_misfits, assign_by_misfits, operator_lowered, two_sizes, both_long, assign_lowered, store_lowered, compound_lowered}
use Rattle.asl_lower.proofs.Places.{call_stays, form_stays, kept_stays, symbol_stays}
use Rattle.asl_lower.proofs.lower.+lower.Goals as goal

-- ---- terms each by itself

pub lower_each-loop-node-init : goal.lower_each-loop-node-init
lower_each-loop-node-init t c = turns_none (λ k. IsLowered) c.deref_mut-node-items.result.now

pub lower_each-lower_node-requires : goal.lower_each-lower_node-requires
lower_each-lower_node-requires t c =
    omega (arith, c.decreases, turn_smaller (λ k. IsLowered) c.deref_mut-node-items.result.now c.loop-node.node-items c.args.nodes.now.items c.loop-node.node-index c.node-item.result c.loop-node.invariant c.loop-node-test.true c.node-item.is c.deref_mut-node-items.ensures.value)

pub lower_each-loop-node-preserved : goal.lower_each-loop-node-preserved
lower_each-loop-node-preserved t c =
    turns_next (λ k. IsLowered) c.deref_mut-node-items.result.now c.loop-node.node-items c.loop-node.node-index c.node-item.result c.lower_node.new.node c.loop-node-test.true c.loop-node.invariant
    (record { is = c.in_ok-lower_node.ensures.tree; places = c.in_ok-lower_node.ensures.places })

pub lower_each-returns-clause-trees : goal.lower_each-returns-clause-trees
lower_each-returns-clause-trees t c =
    ap trees_of (front_only c.loop-node.node-items _ c.args.nodes.now.len (omega (arith, c.deref_mut-node-items.ensures.len, c.loop-node.auto.node-items)))
    ∙ (each_lowered c.deref_mut-node-items.result.now c.loop-node.node-items c.loop-node.node-index c.loop-node-test.false c.loop-node.invariant).0
    ∙ ap (λ ns. named_all (trees_of ns)) c.deref_mut-node-items.ensures.value

pub lower_each-returns-clause-places : goal.lower_each-returns-clause-places
lower_each-returns-clause-places t c =
    ap places_of (front_only c.loop-node.node-items _ c.args.nodes.now.len (omega (arith, c.deref_mut-node-items.ensures.len, c.loop-node.auto.node-items)))
    ∙ (each_lowered c.deref_mut-node-items.result.now c.loop-node.node-items c.loop-node.node-index c.loop-node-test.false c.loop-node.invariant).1
    ∙ ap places_of c.deref_mut-node-items.ensures.value

-- ---- a term

pub lower_node-lower_each-requires : goal.lower_node-lower_each-requires
lower_node-lower_each-requires t c =
    let size = call_smaller c.args.node.now.term c.in-Call.path c.in-Call.args _ c.in-Call.is (ap (λ (v : Vec Node Global). v.items) c.in-Call.args-is) in omega (arith, c.decreases, size)

pub lower_node-returns-in_ok-lower_each-in-Call-clause-tree : goal.lower_node-returns-in_ok-lower_each-in-Call-clause-tree
lower_node-returns-in_ok-lower_each-in-Call-clause-tree t c =
    let rolled = V.rolls-Call c.in-Call.path c.in-Call.args in
    rw (c.in-Call.is ∙ sym rolled, D.out-roll-Term (D.Term-F.Call c.in-Call.path c.in-Call.args), rolled)
    (call_named (at_of c.args.node.now) (D.Call c.in-Call.path c.in-Call.args) c.in-Call.path c.in-Call.args c.lower_each.new.nodes refl
    (c.in_ok-lower_each-in-Call.ensures.trees ∙ ap (λ (v : Vec Node Global). named_all (trees_of v.items)) c.in-Call.args-is))

pub lower_node-returns-in_ok-lower_each-in-Call-clause-places : goal.lower_node-returns-in_ok-lower_each-in-Call-clause-places
lower_node-returns-in_ok-lower_each-in-Call-clause-places t c =
    let rolled = V.rolls-Call c.in-Call.path c.in-Call.args in
    rw (c.in-Call.is ∙ sym rolled, D.out-roll-Term (D.Term-F.Call c.in-Call.path c.in-Call.args), rolled)
    (ap (λ ps. c.args.node.now.place ∷ ps) (call_stays (D.Call c.in-Call.path c.in-Call.args) c.in-Call.path c.in-Call.args c.lower_each.new.nodes refl))

pub lower_node-lower_form-requires : goal.lower_node-lower_form-requires
lower_node-lower_form-requires t c =
    let size = form_smaller c.args.node.now.term c.in-Form.op c.in-Form.args c.in-Form.body _ _ c.in-Form.is (ap (λ (v : Vec Node Global). v.items) c.in-Form.args-is) (ap (λ (v : Vec Node Global). v.items) c.in-Form.body-is) in
    omega (arith, c.decreases, size)

pub lower_node-returns-in_ok-lower_form-in-Form : goal.lower_node-returns-in_ok-lower_form-in-Form
lower_node-returns-in_ok-lower_form-in-Form t c =
    let is = form_is c.args.node.now.term c.in-Form.op _ c.in-Form.args _ c.in-Form.body _ c.in-Form.op-is c.in-Form.args-is c.in-Form.body-is c.in-Form.is in record {
      tree = form_named (at_of c.args.node.now) c.args.node.now.term _ c.lower_form.new.op _ _ c.lower_form.new.args c.lower_form.new.body is (c.in_ok-lower_form-in-Form.ensures.tree (at_of c.args.node.now));
      places = ap (λ ps. c.args.node.now.place ∷ ps) (form_stays c.args.node.now.term _ c.lower_form.new.op _ _ c.lower_form.new.args c.lower_form.new.body is c.in_ok-lower_form-in-Form.ensures.places);
    }

pub lower_node-returns-in_default-clause-tree : goal.lower_node-returns-in_default-clause-tree
lower_node-returns-in_default-clause-tree t c = other_named (at_of c.args.node.now) c.args.node.now.term c.in_default.not-Call c.in_default.not-Form

pub lower_form-returns-then-not-is_empty-clause-tree : goal.lower_form-returns-then-not-is_empty-clause-tree
lower_form-returns-then-not-is_empty-clause-tree t c at =
    symbol_misfits at c.args.op.now c.in-Symbolic.symbol (trees_of c.args.args.now.items) c.args.body.now.items c.in-Symbolic.is (λ e. grind (arith, e, c.is_empty.ensures, c.if-not-is_empty.true))

pub lower_form-returns-in_ok-made-in-Symbolic-clause-tree : goal.lower_form-returns-in_ok-made-in-Symbolic-clause-tree
lower_form-returns-in_ok-made-in-Symbolic-clause-tree t c at =
    let empty : length c.args.body.now.items ≡ 0 = grind (arith, c.is_empty.ensures, c.if-not-is_empty.false) in
    symbol_bare at c.args.op.now c.in_ok-made-in-Symbolic.made c.in-Symbolic.symbol (trees_of c.args.args.now.items) (trees_of c.lower_symbol.new.args.items) c.args.body.now.items c.in-Symbolic.is empty (c.in_ok-made-in-Symbolic.ensures.tree at)

pub lower_form-returns-in_ok-made-in-Symbolic-clause-places : goal.lower_form-returns-in_ok-made-in-Symbolic-clause-places
lower_form-returns-in_ok-made-in-Symbolic-clause-places t c =
    symbol_stays c.args.op.now c.in_ok-made-in-Symbolic.made c.in-Symbolic.symbol (places_of c.args.body.now.items) (places_of c.args.body.now.items) c.in-Symbolic.is c.in_ok-made-in-Symbolic.ensures.alone

pub lower_form-returns-in_ok-lower_body-in_default : goal.lower_form-returns-in_ok-lower_body-in_default
lower_form-returns-in_ok-lower_body-in_default t c = record {
  tree = λ at. kept_named at c.args.op.now (trees_of c.args.args.now.items) (trees_of c.args.body.now.items) (trees_of c.lower_each.new.nodes.items) (trees_of c.lower_body.new.body.items) c.in_default.not-Symbolic c.in_ok-lower_each-in_default.ensures.trees c.in_ok-lower_body-in_default.ensures.trees;
  places = kept_stays c.args.op.now (places_of c.lower_body.new.body.items) (places_of c.args.body.now.items) c.in_ok-lower_body-in_default.ensures.places;
}

-- ---- symbols

pub lower_operator-returns-clause-tree : goal.lower_operator-returns-clause-tree
lower_operator-returns-clause-tree t c at =
    let holds : c.fit.result ≡ true = grind (arith, c.if-not-fit.false) in
    let fitting : fits (row_of c.args.op).operands (trees_of c.args.args.now.items) ≡ true = sym (ap (λ ns. fits (row_of c.args.op).operands (trees_of ns)) c.deref.ensures.value) ∙ sym c.fit.ensures ∙ holds in
    operator_lowered at c.args.op (trees_of c.args.args.now.items) (trees_of c.lower_each.new.nodes.items) (trees_of c.put_omitted.new.args.items) fitting c.in_ok-lower_each.ensures.trees c.in_ok-put_omitted.ensures

-- ---- assignments

pub lower_assignment-returns-then-len-ne2-clause-tree : goal.lower_assignment-returns-then-len-ne2-clause-tree
lower_assignment-returns-then-len-ne2-clause-tree t c at = assign_misfits at c.args.args.now.items (λ e. grind (arith, e, c.len.ensures, c.if-len-ne2.true))

pub lower_assignment-lower_node-requires : goal.lower_assignment-lower_node-requires
lower_assignment-lower_node-requires t c =
    let both : c.args.args.now.items ≡ c.two-target.result.0 ∷ c.two-target.result.1 ∷ [] = ap (λ (v : Vec Node Global). v.items) (sym c.replace-both.ensures.value) ∙ c.two-target.ensures in
    let size = two_sizes c.args.args.now.items c.two-target.result.0 c.two-target.result.1 both in omega (arith, c.decreases, size)

pub lower_assignment-lower_each-requires : goal.lower_assignment-lower_each-requires
lower_assignment-lower_each-requires t c =
    let both : c.args.args.now.items ≡ c.two-target.result.0 ∷ c.two-target.result.1 ∷ [] = ap (λ (v : Vec Node Global). v.items) (sym c.replace-both.ensures.value) ∙ c.two-target.ensures in
    let size = two_sizes c.args.args.now.items c.two-target.result.0 c.two-target.result.1 both in omega (arith, c.decreases, size, c.operands-operands.ensures.size)

pub lower_assignment-swap-requires : goal.lower_assignment-swap-requires
lower_assignment-swap-requires t c =
    let two : length c.args.args.now.items ≡ 2 = grind (arith, c.len.ensures, c.if-len-ne2.false, c.args.args.now.ok.0) in
    let long = both_long c.args.args.now.items c.lower_each-in_default.new.nodes.items two c.in_ok-lower_each-in_default.ensures.trees in record {
      i_in_bounds = omega (arith, long, c.lower_each-in_default.new.nodes.ok.0);
      j_in_bounds = omega (arith, long, c.lower_each-in_default.new.nodes.ok.0);
    }

pub lower_assignment-index_mut-requires : goal.lower_assignment-index_mut-requires
lower_assignment-index_mut-requires t c =
    let two : length c.args.args.now.items ≡ 2 = grind (arith, c.len.ensures, c.if-len-ne2.false, c.args.args.now.ok.0) in
    let long = both_long c.args.args.now.items c.lower_each-in_default.new.nodes.items two c.in_ok-lower_each-in_default.ensures.trees in
    omega (arith, long, c.lower_each-in_default.new.nodes.ok.0, c.swap.ensures.len)

pub lower_assignment-returns-in_ok-put_targets-in-Operated-clause-tree : goal.lower_assignment-returns-in_ok-put_targets-in-Operated-clause-tree
lower_assignment-returns-in_ok-put_targets-in-Operated-clause-tree t c at =
    let both : c.args.args.now.items ≡ c.two-target.result.0 ∷ c.two-target.result.1 ∷ [] = ap (λ (v : Vec Node Global). v.items) (sym c.replace-both.ensures.value) ∙ c.two-target.ensures in
    assign_lowered at c.args.args.now.items c.two-target.result.0 c.two-target.result.1 c.lower_node.new.node c.in-Operated.op (trees_of c.operands-operands.result.items) (trees_of c.lower_each.new.nodes.items) (trees_of c.put_targets.new.args.items) both
    c.in_ok-lower_node-in-Operated.ensures.tree (c.in-Operated.ensures ∙ ap (λ (n : Node). shape_kind (term_shape n.term)) (c.index.ensures ∙ ap (λ ns. get_or ns 1 c.index.result.now) both)) c.operands-operands.ensures.args c.in_ok-lower_each-in-Operated.ensures.trees c.in_ok-put_targets-in-Operated.ensures

pub lower_assignment-returns-in_ok-lower_each-in_default : goal.lower_assignment-returns-in_ok-lower_each-in_default
lower_assignment-returns-in_ok-lower_each-in_default t c =
    let two : length c.args.args.now.items ≡ 2 = grind (arith, c.len.ensures, c.if-len-ne2.false, c.args.args.now.ok.0) in record {
      tree = λ at. store_lowered at c.args.args.now.items c.lower_each-in_default.new.nodes.items c.swap.new.self.items c.index.result.now c.index_mut.result.now c.give.new.node c.kind_of.result two c.index.ensures c.in_ok-lower_each-in_default.ensures.trees
          c.swap.ensures.items c.index_mut.ensures.value c.give.ensures c.kind_of.ensures c.in_default.not-Operated;
      alone = refl;
    }

pub lower_compound-returns-then-len-ne2-clause-tree : goal.lower_compound-returns-then-len-ne2-clause-tree
lower_compound-returns-then-len-ne2-clause-tree t c at = assign_by_misfits at c.args.op c.args.args.now.items (λ e. grind (arith, e, c.len.ensures, c.if-len-ne2.true))

pub lower_compound-index-requires : goal.lower_compound-index-requires
lower_compound-index-requires t c =
    let two : length c.args.args.now.items ≡ 2 = grind (arith, c.len.ensures, c.if-len-ne2.false, c.args.args.now.ok.0) in
    let long = both_long c.args.args.now.items c.lower_each.new.nodes.items two c.in_ok-lower_each.ensures.trees in omega (arith, long, c.lower_each.new.nodes.ok.0)

pub lower_compound-index_mut-requires : goal.lower_compound-index_mut-requires
lower_compound-index_mut-requires t c =
    let two : length c.args.args.now.items ≡ 2 = grind (arith, c.len.ensures, c.if-len-ne2.false, c.args.args.now.ok.0) in
    let long = both_long c.args.args.now.items c.lower_each.new.nodes.items two c.in_ok-lower_each.ensures.trees in omega (arith, long, c.lower_each.new.nodes.ok.0)

pub lower_compound-index_mut-requires-2 : goal.lower_compound-index_mut-requires-2
lower_compound-index_mut-requires-2 t c =
    let two : length c.args.args.now.items ≡ 2 = grind (arith, c.len.ensures, c.if-len-ne2.false, c.args.args.now.ok.0) in
    let long = both_long c.args.args.now.items c.lower_each.new.nodes.items two c.in_ok-lower_each.ensures.trees in omega (arith, long, c.lower_each.new.nodes.ok.0)

pub lower_compound-returns-clause-tree : goal.lower_compound-returns-clause-tree
lower_compound-returns-clause-tree t c at =
    let two : length c.args.args.now.items ≡ 2 = grind (arith, c.len.ensures, c.if-len-ne2.false, c.args.args.now.ok.0) in
    compound_lowered at c.args.op c.compound-plain.result c.args.args.now.items c.lower_each.new.nodes.items c.index.result.now c.in_ok-target.target c.index_mut.result.now c.give.new.node c.index_mut-2.result.now c.give-2.new.node (trees_of c.put_targets.new.args.items) c.compound-plain.ensures two
    c.in_ok-lower_each.ensures.trees c.index.ensures c.in_ok-target.ensures c.index_mut.ensures.value c.give.ensures c.index_mut-2.ensures.value c.give-2.ensures c.in_ok-put_targets.ensures
