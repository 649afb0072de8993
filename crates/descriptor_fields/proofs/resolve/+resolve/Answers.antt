use Rattle.std.proofs.Common.{◌≡◌, ◌++◌, ◌<◌, length, Option, Some, None, Vec, Global, refl, sym, ap, ◌∙◌, arith}
use Rattle.std.proofs.lemmas.List.{length-set, get_or-set_other}
use Rattle.acpi_state.specs.Outcomes.{choose}
use Rattle.asl_tree.specs.declared.path.Path.{Path}
use Rattle.asl_tree.specs.declared.term.Node.{Node}
use Rattle.asl_tree.specs.declared.term.Word.{Word}
use Rattle.asl_tree.specs.declared.term.Term as D
use Rattle.asl_tree.specs.declared.term.Term.TheVariants as V
use Rattle.term_plans.specs.Plans.{Plan, a_name, a_word, plan_of, plans_of}
use Rattle.term_plans.proofs.Terms.{name_term, word_term}
use Rattle.asl_numbers.specs.Numbers.{nodes}
use Rattle.asl_numbers.proofs.Trees.{none_inside as inside_other, call_inside, form_inside}
use Rattle.descriptor_fields.specs.Constants.{resolved_from, broken_from}
use Rattle.descriptor_fields.specs.Shown.{among_as}
use Rattle.descriptor_fields.specs.Values.{OfCall}
use Rattle.descriptor_fields.proofs.Resolving.{none_inside, form_again, other_resolved, other_told, name_resolved, name_told, call_resolved, call_told, form_resolved, form_told, begin_count, next_count, end_count, begin_made, next_made, end_made, begin_told, next_told, end_told}
use Rattle.descriptor_fields.proofs.resolve.+resolve.Goals as goal

-- ---- nodes one after another

pub resolve_nodes-loop-at-init : goal.resolve_nodes-loop-at-init
resolve_nodes-loop-at-init t c = record {
  unvisited = (refl, λ k d le. refl);
  end = omega (arith, c.len-at-end.ensures);
  count = begin_count c.args.first c.args.nodes.now.items;
  made = λ said says. begin_made said (among_as c.args.among) c.args.bits c.args.first c.args.nodes.now.items;
  told = λ said says. begin_told said (among_as c.args.among) c.args.bits c.args.first c.args.nodes.now.items c.args.faults.now.items;
}

pub resolve_nodes-loop-at-preserved : goal.resolve_nodes-loop-at-preserved
resolve_nodes-loop-at-preserved t c =
    let now = c.loop-at.nodes.items in
    let at = c.loop-at.at in
    let node = c.index_mut-node.result.now in
    let lt : at < length now = omega (arith, c.loop-at-test.true, c.loop-at.invariant.end, c.loop-at.invariant.unvisited.0) in
    record {
      unvisited = (length-set now at _ ∙ c.loop-at.invariant.unvisited.0, λ k d le. get_or-set_other now at k _ d (λ e. omega (arith, le, e)) ∙ c.loop-at.invariant.unvisited.1 k d (omega (arith, le)));
      end = c.loop-at.invariant.end;
      count = next_count now at c.loop-at.next c.in_ok-next.next _ node _ lt c.index_mut-node.ensures.value c.in_ok-next.ensures.next c.loop-at.invariant.count;
      made = λ said says.
          next_made said (among_as c.args.among) c.args.bits now at c.loop-at.next c.in_ok-next.next node _ lt c.index_mut-node.ensures.value c.in_ok-next.ensures.next _ _ c.standing_in-standing.ensures.bits c.standing_in-standing.ensures.value
          _ refl (c.in_ok-next.ensures.made said says) (c.loop-at.invariant.made said says);
      told = λ said says.
          next_told said (among_as c.args.among) c.args.bits now at c.loop-at.next c.in_ok-next.next node _ lt c.index_mut-node.ensures.value c.in_ok-next.ensures.next _ _ c.standing_in-standing.ensures.bits c.standing_in-standing.ensures.value
          _ c.loop-at.faults.items c.resolve_term.new.faults.items (c.in_ok-next.ensures.told said says) (c.loop-at.invariant.told said says);
    }

pub resolve_nodes-returns-clause-next : goal.resolve_nodes-returns-clause-next
resolve_nodes-returns-clause-next t c = end_count c.loop-at.nodes.items c.loop-at.at c.loop-at.next _ (omega (arith, c.loop-at-test.false, c.loop-at.invariant.end, c.loop-at.invariant.unvisited.0)) c.loop-at.invariant.count

pub resolve_nodes-returns-clause-made : goal.resolve_nodes-returns-clause-made
resolve_nodes-returns-clause-made t c said says =
    end_made said (among_as c.args.among) c.args.bits c.loop-at.nodes.items c.loop-at.at c.loop-at.next _ (omega (arith, c.loop-at-test.false, c.loop-at.invariant.end, c.loop-at.invariant.unvisited.0)) (c.loop-at.invariant.made said says)

pub resolve_nodes-returns-clause-told : goal.resolve_nodes-returns-clause-told
resolve_nodes-returns-clause-told t c said says =
    end_told said (among_as c.args.among) c.args.bits c.loop-at.faults.items c.loop-at.nodes.items c.loop-at.at c.loop-at.next _ (omega (arith, c.loop-at-test.false, c.loop-at.invariant.end, c.loop-at.invariant.unvisited.0)) (c.loop-at.invariant.told said says)

-- ---- a name

is_made : {o : Option Word} {p : Plan} (name : Path) (made : Option Word) → o ≡ made → choose o (a_name name) a_word ≡ p → choose made (a_name name) a_word ≡ p
is_made name made e f = sym (ap (λ o. choose o (a_name name) a_word) e) ∙ f

pub resolve_term-returns-in-Some-clause-next : goal.resolve_term-returns-in-Some-clause-next
resolve_term-returns-in-Some-clause-next t c = let none = none_inside c.args.term.now c.in-Name.field-0 c.in-Name.is in omega (arith, c.in_ok-first.ensures, none)

pub resolve_term-returns-in-Some-clause-made : goal.resolve_term-returns-in-Some-clause-made
resolve_term-returns-in-Some-clause-made t c said says =
    name_resolved said c.args.standing.bits c.args.standing.value c.args.node c.args.term.now (D.Word c.in-Some.word) c.in-Name.field-0 c.at_node-field.result c.in-Name.is (c.at_node-field.ensures ∙ says c.args.node) (word_term c.in-Some.word ∙ is_made c.in-Name.field-0 (Some c.in-Some.word) c.in-Some.is (c.in_ok-made-in-Name.ensures.made c.in-Name.field-0))

pub resolve_term-returns-in-Some-clause-told : goal.resolve_term-returns-in-Some-clause-told
resolve_term-returns-in-Some-clause-told t c said says =
    name_told said c.args.standing.bits c.args.standing.value c.args.node c.args.place c.args.faults.now.items c.constant.new.faults.items c.args.term.now c.in-Name.field-0 c.at_node-field.result c.in-Name.is (c.at_node-field.ensures ∙ says c.args.node) c.in_ok-made-in-Name.ensures.told

pub resolve_term-returns-in-None-clause-next : goal.resolve_term-returns-in-None-clause-next
resolve_term-returns-in-None-clause-next t c = let none = none_inside c.args.term.now c.in-Name.field-0 c.in-Name.is in omega (arith, c.in_ok-first.ensures, none)

pub resolve_term-returns-in-None-clause-made : goal.resolve_term-returns-in-None-clause-made
resolve_term-returns-in-None-clause-made t c said says =
    name_resolved said c.args.standing.bits c.args.standing.value c.args.node c.args.term.now c.args.term.now c.in-Name.field-0 c.at_node-field.result c.in-Name.is (c.at_node-field.ensures ∙ says c.args.node)
    (ap plan_of c.in-Name.is ∙ name_term c.in-Name.field-0 ∙ is_made c.in-Name.field-0 None c.in-None.is (c.in_ok-made-in-Name.ensures.made c.in-Name.field-0))

pub resolve_term-returns-in-None-clause-told : goal.resolve_term-returns-in-None-clause-told
resolve_term-returns-in-None-clause-told t c said says =
    name_told said c.args.standing.bits c.args.standing.value c.args.node c.args.place c.args.faults.now.items c.constant.new.faults.items c.args.term.now c.in-Name.field-0 c.at_node-field.result c.in-Name.is (c.at_node-field.ensures ∙ says c.args.node) c.in_ok-made-in-Name.ensures.told

-- ---- a call

pub resolve_term-returns-in_ok-next-in-Call-clause-next : goal.resolve_term-returns-in_ok-next-in-Call-clause-next
resolve_term-returns-in_ok-next-in-Call-clause-next t c =
    let count = call_inside c.args.term.now c.in-Call.path c.in-Call.args c.in-Call.is in omega (arith, count, c.in_ok-first.ensures, ap (λ (v : Vec Node Global). nodes (plans_of v.items)) c.in-Call.args-is, c.in_ok-next-in-Call.ensures.next)

pub resolve_term-returns-in_ok-next-in-Call-clause-made : goal.resolve_term-returns-in_ok-next-in-Call-clause-made
resolve_term-returns-in_ok-next-in-Call-clause-made t c said says =
    let rolled = V.rolls-Call c.in-Call.path c.in-Call.args in
    rw (c.in-Call.is ∙ sym rolled, D.out-roll-Term (D.Term-F.Call c.in-Call.path c.in-Call.args), rolled)
    (call_resolved said c.args.standing.bits c.args.standing.value c.args.node (D.Call c.in-Call.path c.in-Call.args) c.in-Call.path c.in-Call.args c.in_ok-first.first refl c.in_ok-first.ensures c.resolve_nodes.new.nodes
    (c.in_ok-next-in-Call.ensures.made said says ∙ ap (λ (v : Vec Node Global). resolved_from said OfCall 0 c.args.standing.bits c.in_ok-first.first (plans_of v.items)) c.in-Call.args-is))

pub resolve_term-returns-in_ok-next-in-Call-clause-told : goal.resolve_term-returns-in_ok-next-in-Call-clause-told
resolve_term-returns-in_ok-next-in-Call-clause-told t c said says =
    call_told said c.args.standing.bits c.args.standing.value c.args.node c.args.term.now c.in-Call.path c.in-Call.args c.in_ok-first.first c.in-Call.is c.in_ok-first.ensures c.args.place c.args.faults.now.items c.resolve_nodes.new.faults.items
    (c.in_ok-next-in-Call.ensures.told said says ∙ ap (λ (v : Vec Node Global). c.args.faults.now.items ++ broken_from said OfCall 0 c.args.standing.bits c.in_ok-first.first (plans_of v.items)) c.in-Call.args-is)

-- ---- a form

pub resolve_term-returns-in_ok-next-in-Form-2-clause-next : goal.resolve_term-returns-in_ok-next-in-Form-2-clause-next
resolve_term-returns-in_ok-next-in-Form-2-clause-next t c =
    let is = form_again c.args.term.now c.in-Form.op _ c.in-Form.args _ c.in-Form.body _ c.in-Form.is c.in-Form.op-is c.in-Form.args-is c.in-Form.body-is in
    let count = form_inside c.args.term.now _ _ _ is in
    omega (arith, count, c.in_ok-first.ensures, c.in_ok-next-in-Form.ensures.next, c.in_ok-next-in-Form-2.ensures.next)

pub resolve_term-returns-in_ok-next-in-Form-2-clause-made : goal.resolve_term-returns-in_ok-next-in-Form-2-clause-made
resolve_term-returns-in_ok-next-in-Form-2-clause-made t c said says =
    let is = form_again c.args.term.now c.in-Form.op _ c.in-Form.args _ c.in-Form.body _ c.in-Form.is c.in-Form.op-is c.in-Form.args-is c.in-Form.body-is in
    form_resolved said c.args.standing.bits c.args.standing.value c.args.node c.args.term.now _ _ _ c.in_ok-first.first c.in_ok-next-in-Form.next is c.in_ok-first.ensures c.in_ok-next-in-Form.ensures.next c.resolve_nodes-in-Form.new.nodes c.resolve_nodes-in-Form-2.new.nodes
    (c.in_ok-next-in-Form.ensures.made said says) (c.in_ok-next-in-Form-2.ensures.made said says)

pub resolve_term-returns-in_ok-next-in-Form-2-clause-told : goal.resolve_term-returns-in_ok-next-in-Form-2-clause-told
resolve_term-returns-in_ok-next-in-Form-2-clause-told t c said says =
    let is = form_again c.args.term.now c.in-Form.op _ c.in-Form.args _ c.in-Form.body _ c.in-Form.is c.in-Form.op-is c.in-Form.args-is c.in-Form.body-is in
    form_told said c.args.standing.bits c.args.standing.value c.args.node c.args.term.now _ _ _ c.in_ok-first.first c.in_ok-next-in-Form.next is c.in_ok-first.ensures c.in_ok-next-in-Form.ensures.next c.args.place c.args.faults.now.items c.resolve_nodes-in-Form.new.faults.items c.resolve_nodes-in-Form-2.new.faults.items
    (c.in_ok-next-in-Form.ensures.told said says) (c.in_ok-next-in-Form-2.ensures.told said says)

-- ---- any other

pub resolve_term-returns-in_default : goal.resolve_term-returns-in_default
resolve_term-returns-in_default t c = record {
  next = let none = inside_other c.args.term.now c.in_default.not-Call c.in_default.not-Form in omega (arith, c.in_ok-first.ensures, none);
  made = λ said says. other_resolved said c.args.standing.bits c.args.standing.value c.args.node c.args.term.now c.in_default.not-Name c.in_default.not-Call c.in_default.not-Form;
  told = λ said says. other_told said c.args.standing.bits c.args.standing.value c.args.node c.args.place c.args.faults.now.items c.args.term.now c.in_default.not-Name c.in_default.not-Call c.in_default.not-Form;
}
