use Rattle.std.proofs.Common.{Vec, Global, refl, sym, ap, ◌∙◌, arith}
use Rattle.asl_tree.specs.View.{trees_of}
use Rattle.asl_tree.specs.declared.term.Node.{Node}
use Rattle.asl_tree.specs.declared.term.Term as D
use Rattle.asl_tree.specs.declared.term.Term.TheVariants as V
use Rattle.acpi_names.proofs.Folds.{at_of}
use Rattle.acpi_names.proofs.Trees.{call_smaller, form_smaller}
use Rattle.asl_lower.proofs.Turns.{turns_none, turns_next, turn_smaller, front_only, form_is}
use Rattle.term_places.specs.Places.{places_of}
use Rattle.asl_fold.specs.declared.fate.Fate.TheVariants as F
use Rattle.asl_fold.specs.declared.part.Listing.{Listing}
use Rattle.asl_fold.specs.Nodes.{part_in, folded_by}
use Rattle.asl_fold.proofs.Nodes.{IsFolded, all_folded, leaf_folded, others_folded, other_folded, call_folded, kept_folded, plain_folded, stays_folded}
use Rattle.asl_fold.proofs.Stored.{number_is, put_is}
use Rattle.asl_fold.proofs.Places.{number_inside, put_places, plain_places, form_kept, call_kept}
use Rattle.asl_fold.proofs.fold.+fold.Goals as goal

-- ---- the members of a list

pub fold_nodes-returns-in-Others-clause-trees : goal.fold_nodes-returns-in-Others-clause-trees
fold_nodes-returns-in-Others-clause-trees t c = others_folded c.args.width c.args.listing (trees_of c.args.nodes.now.items) c.in-Others.is

pub fold_nodes-loop-index-init : goal.fold_nodes-loop-index-init
fold_nodes-loop-index-init t c = turns_none (λ k. IsFolded c.args.width (part_in c.args.listing k)) c.deref_mut-node-items.result.now

pub fold_nodes-fold_member-requires : goal.fold_nodes-fold_member-requires
fold_nodes-fold_member-requires t c =
    omega (arith, c.decreases, turn_smaller (λ k. IsFolded c.args.width (part_in c.args.listing k)) c.deref_mut-node-items.result.now c.loop-index.node-items c.args.nodes.now.items c.loop-index.index c.node-item.result c.loop-index.invariant c.loop-index-test.true c.node-item.is c.deref_mut-node-items.ensures.value)

pub fold_nodes-loop-index-preserved : goal.fold_nodes-loop-index-preserved
fold_nodes-loop-index-preserved t c =
    turns_next (λ k. IsFolded c.args.width (part_in c.args.listing k)) c.deref_mut-node-items.result.now c.loop-index.node-items c.loop-index.index c.node-item.result c.fold_member.new.node c.loop-index-test.true c.loop-index.invariant
    (record { is = c.in_ok-fold_member.ensures.tree; places = c.in_ok-fold_member.ensures.places })

pub fold_nodes-returns-clause-trees : goal.fold_nodes-returns-clause-trees
fold_nodes-returns-clause-trees t c =
    ap trees_of (front_only c.loop-index.node-items _ c.args.nodes.now.len (omega (arith, c.deref_mut-node-items.ensures.len, c.loop-index.auto.node-items)))
    ∙ (all_folded c.args.width (part_in c.args.listing) c.deref_mut-node-items.result.now c.loop-index.node-items c.loop-index.index c.loop-index-test.false c.loop-index.invariant).0
    ∙ ap (λ ns. folded_by c.args.width (part_in c.args.listing) (trees_of ns)) c.deref_mut-node-items.ensures.value

pub fold_nodes-returns-clause-places : goal.fold_nodes-returns-clause-places
fold_nodes-returns-clause-places t c =
    ap places_of (front_only c.loop-index.node-items _ c.args.nodes.now.len (omega (arith, c.deref_mut-node-items.ensures.len, c.loop-index.auto.node-items)))
    ∙ (all_folded c.args.width (part_in c.args.listing) c.deref_mut-node-items.result.now c.loop-index.node-items c.loop-index.index c.loop-index-test.false c.loop-index.invariant).1
    ∙ ap places_of c.deref_mut-node-items.ensures.value

-- ---- a member

pub fold_member-returns-in_default : goal.fold_member-returns-in_default
fold_member-returns-in_default t c =
    record { tree = leaf_folded c.args.width (part_in c.args.listing c.args.index) (at_of c.args.node.now) c.args.node.now.term c.in_default.not-Call c.in_default.not-Form; places = refl }

-- ---- a term

pub fold_node-fold_nodes-requires : goal.fold_node-fold_nodes-requires
fold_node-fold_nodes-requires t c =
    let size = call_smaller c.args.node.now.term c.in-Call.path c.in-Call.args _ c.in-Call.is (ap (λ (v : Vec Node Global). v.items) c.in-Call.args-is) in omega (arith, c.decreases, size)

pub fold_node-fold_nodes-requires-in-Form : goal.fold_node-fold_nodes-requires-in-Form
fold_node-fold_nodes-requires-in-Form t c =
    let size = form_smaller c.args.node.now.term c.in-Form.op c.in-Form.args c.in-Form.body _ _ c.in-Form.is (ap (λ (v : Vec Node Global). v.items) c.in-Form.args-is) (ap (λ (v : Vec Node Global). v.items) c.in-Form.body-is) in
    omega (arith, c.decreases, size)

pub fold_node-fold_nodes-requires-in-Form-2 : goal.fold_node-fold_nodes-requires-in-Form-2
fold_node-fold_nodes-requires-in-Form-2 t c =
    let size = form_smaller c.args.node.now.term c.in-Form.op c.in-Form.args c.in-Form.body _ _ c.in-Form.is (ap (λ (v : Vec Node Global). v.items) c.in-Form.args-is) (ap (λ (v : Vec Node Global). v.items) c.in-Form.body-is) in
    omega (arith, c.decreases, size)

pub fold_node-returns-in_ok-fold_nodes-in-Call-clause-tree : goal.fold_node-returns-in_ok-fold_nodes-in-Call-clause-tree
fold_node-returns-in_ok-fold_nodes-in-Call-clause-tree t c =
    let rolled = V.rolls-Call c.in-Call.path c.in-Call.args in
    rw (c.in-Call.is ∙ sym rolled, D.out-roll-Term (D.Term-F.Call c.in-Call.path c.in-Call.args), rolled)
    (call_folded c.args.width c.args.statement (at_of c.args.node.now) (D.Call c.in-Call.path c.in-Call.args) c.in-Call.path c.in-Call.args c.fold_nodes.new.nodes refl
    (c.in_ok-fold_nodes-in-Call.ensures.trees ∙ ap (λ (v : Vec Node Global). folded_by c.args.width (part_in Listing.Elements) (trees_of v.items)) c.in-Call.args-is))

pub fold_node-returns-in_ok-fold_nodes-in-Call-clause-places : goal.fold_node-returns-in_ok-fold_nodes-in-Call-clause-places
fold_node-returns-in_ok-fold_nodes-in-Call-clause-places t c =
    let rolled = V.rolls-Call c.in-Call.path c.in-Call.args in
    rw (c.in-Call.is ∙ sym rolled, D.out-roll-Term (D.Term-F.Call c.in-Call.path c.in-Call.args), rolled)
    (call_kept c.args.node.now.place (D.Call c.in-Call.path c.in-Call.args) c.in-Call.path c.in-Call.args c.fold_nodes.new.nodes refl)

pub fold_node-returns-in_default : goal.fold_node-returns-in_default
fold_node-returns-in_default t c = record { tree = other_folded c.args.width c.args.statement (at_of c.args.node.now) c.args.node.now.term c.in_default.not-Call c.in_default.not-Form; places = refl }

-- ---- a form

pub fold_node-returns-in-Stays-clause-tree : goal.fold_node-returns-in-Stays-clause-tree
fold_node-returns-in-Stays-clause-tree t c =
    let is = form_is c.args.node.now.term c.in-Form.op _ c.in-Form.args _ c.in-Form.body _ c.in-Form.op-is c.in-Form.args-is c.in-Form.body-is c.in-Form.is in
    plain_folded c.args.width c.args.statement (at_of c.args.node.now) c.args.node.now.term _ _ c.in-Plain.plain _ _ c.fold_nodes-in-Form.new.nodes c.fold_nodes-in-Form-2.new.nodes c.listing_of.result c.deref.result.now c.deref-in-Plain.result.now F.Stays is c.in-Plain.is
    c.in_ok-fold_nodes-in-Form.ensures.trees c.listing_of.ensures c.in_ok-fold_nodes-in-Form-2.ensures.trees c.deref.ensures.value c.deref-in-Plain.ensures.value c.in-Stays.ensures (stays_folded (at_of c.args.node.now) _ c.in-Plain.plain c.fold_nodes-in-Form.new.nodes c.fold_nodes-in-Form-2.new.nodes c.in-Plain.is)

pub fold_node-returns-in-Stays-clause-places : goal.fold_node-returns-in-Stays-clause-places
fold_node-returns-in-Stays-clause-places t c =
    let is = form_is c.args.node.now.term c.in-Form.op _ c.in-Form.args _ c.in-Form.body _ c.in-Form.op-is c.in-Form.args-is c.in-Form.body-is c.in-Form.is in
    form_kept c.args.node.now.place c.args.node.now.term _ _ _ c.fold_nodes-in-Form.new.nodes c.fold_nodes-in-Form-2.new.nodes is c.in_ok-fold_nodes-in-Form-2.ensures.places

pub fold_node-returns-in-Becomes-clause-tree : goal.fold_node-returns-in-Becomes-clause-tree
fold_node-returns-in-Becomes-clause-tree t c =
    let is = form_is c.args.node.now.term c.in-Form.op _ c.in-Form.args _ c.in-Form.body _ c.in-Form.op-is c.in-Form.args-is c.in-Form.body-is c.in-Form.is in
    put_is c.args.node.now c.put_term.new.node (D.Integer c.in-Becomes.value) c.put_term.ensures
    ∙ plain_folded c.args.width c.args.statement (at_of c.args.node.now) c.args.node.now.term _ _ c.in-Plain.plain _ _ c.fold_nodes-in-Form.new.nodes c.fold_nodes-in-Form-2.new.nodes c.listing_of.result c.deref.result.now c.deref-in-Plain.result.now (F.Becomes c.in-Becomes.value) is c.in-Plain.is
    c.in_ok-fold_nodes-in-Form.ensures.trees c.listing_of.ensures c.in_ok-fold_nodes-in-Form-2.ensures.trees c.deref.ensures.value c.deref-in-Plain.ensures.value c.in-Becomes.ensures (number_is (at_of c.args.node.now) c.in-Becomes.value)

pub fold_node-returns-in-Becomes-clause-places : goal.fold_node-returns-in-Becomes-clause-places
fold_node-returns-in-Becomes-clause-places t c =
    let is = form_is c.args.node.now.term c.in-Form.op _ c.in-Form.args _ c.in-Form.body _ c.in-Form.op-is c.in-Form.args-is c.in-Form.body-is c.in-Form.is in
    put_places c.args.node.now c.put_term.new.node (D.Integer c.in-Becomes.value) c.put_term.ensures ∙ plain_places c.args.node.now.place c.args.node.now.term _ _ c.in-Plain.plain _ _ is c.in-Plain.is (number_inside c.in-Becomes.value)

pub fold_node-returns-in_ok-made-in-Stores-clause-tree : goal.fold_node-returns-in_ok-made-in-Stores-clause-tree
fold_node-returns-in_ok-made-in-Stores-clause-tree t c =
    let is = form_is c.args.node.now.term c.in-Form.op _ c.in-Form.args _ c.in-Form.body _ c.in-Form.op-is c.in-Form.args-is c.in-Form.body-is c.in-Form.is in
    put_is c.args.node.now c.put_term-in-Stores.new.node _ c.put_term-in-Stores.ensures
    ∙ plain_folded c.args.width c.args.statement (at_of c.args.node.now) c.args.node.now.term _ _ c.in-Plain.plain _ _ c.fold_nodes-in-Form.new.nodes c.fold_nodes-in-Form-2.new.nodes c.listing_of.result c.deref.result.now c.deref-in-Plain.result.now (F.Stores c.in-Stores.value) is c.in-Plain.is
    c.in_ok-fold_nodes-in-Form.ensures.trees c.listing_of.ensures c.in_ok-fold_nodes-in-Form-2.ensures.trees c.deref.ensures.value c.deref-in-Plain.ensures.value c.in-Stores.ensures
    (c.in_ok-made-in-Stores.ensures.tree (at_of c.args.node.now))

pub fold_node-returns-in_ok-made-in-Stores-clause-places : goal.fold_node-returns-in_ok-made-in-Stores-clause-places
fold_node-returns-in_ok-made-in-Stores-clause-places t c =
    let is = form_is c.args.node.now.term c.in-Form.op _ c.in-Form.args _ c.in-Form.body _ c.in-Form.op-is c.in-Form.args-is c.in-Form.body-is c.in-Form.is in
    put_places c.args.node.now c.put_term-in-Stores.new.node _ c.put_term-in-Stores.ensures ∙ plain_places c.args.node.now.place c.args.node.now.term _ _ c.in-Plain.plain _ _ is c.in-Plain.is c.in_ok-made-in-Stores.ensures.places

pub fold_node-returns-in_default-op : goal.fold_node-returns-in_default-op
fold_node-returns-in_default-op t c =
    let is = form_is c.args.node.now.term c.in-Form.op _ c.in-Form.args _ c.in-Form.body _ c.in-Form.op-is c.in-Form.args-is c.in-Form.body-is c.in-Form.is in record {
      tree = kept_folded c.args.width c.args.statement (at_of c.args.node.now) c.args.node.now.term _ _ _ c.fold_nodes-in-Form.new.nodes c.fold_nodes-in-Form-2.new.nodes c.listing_of.result is c.in_default-op.not-Plain c.in_ok-fold_nodes-in-Form.ensures.trees c.listing_of.ensures c.in_ok-fold_nodes-in-Form-2.ensures.trees;
      places = form_kept c.args.node.now.place c.args.node.now.term _ _ _ c.fold_nodes-in-Form.new.nodes c.fold_nodes-in-Form-2.new.nodes is c.in_ok-fold_nodes-in-Form-2.ensures.places;
    }
