use Rattle.std.proofs.Common.{◌≡◌, ◌<◌, ◌++◌, [], length, append-nil, slice_get, Some, ◌+◌, arith, drop, get_or, ap, sym, subst, ◌∙◌, OnOk}
use Rattle.std.proofs.lemmas.Result.{on_ok_weaker}
use Rattle.asl_syntax.specs.Nodes.{raw_in}
use Rattle.asl_terms.specs.Terms.{Shaped, evaluated, checked, number_shape, text_shape}
use Rattle.term_plans.specs.Places.{nowhere}
use Rattle.term_plans.specs.Plans.{one_plan}
use Rattle.asl_terms.specs.AtRaw.{place_at}
use Rattle.asl_shape.specs.AtRaw.{shape_at, bare_at, item_at, member_at, one_at, run_after_at, terms_at, default_after_at, cases_at}
use Rattle.asl_shape.specs.AtRaw.{part_at, unit_at, due_behind_at}
use Rattle.term_plans.specs.Plans.{Plan, plans_of, join, last_plan, before_last, with_last}
use Rattle.asl_words.specs.declared.operator.Slot.TheVariants as slot
use Rattle.asl_terms.proofs.Last.{some_behind, last_join, before_join}
use Rattle.asl_shape.proofs.Shapes.{none_more, clean_faults, clean_made, read_there, bare_number, bare_text, bare_item, operand_faults, operand_made, list_faults, list_made, run_faults, run_made, case_faults, case_made, item_smaller, argument_some_faults, argument_some_made, left_faults, left_made, argument_faults, argument_made, got_some, got_none}
use Rattle.asl_terms.proofs.Leaves.{place_item, place_number, place_text}
use Rattle.asl_shape.proofs.FieldSteps.{element_faults, element_made}
use Rattle.asl_shape.proofs.tree.+shape.Goals as goal

pub add_bare-returns-in-Item-clause-faults : goal.add_bare-returns-in-Item-clause-faults
add_bare-returns-in-Item-clause-faults t c =
    subst (λ x. OnOk c.add_item.result (c.add_item.new.work.faults.items ≡ c.args.work.now.faults.items ++ x.faults)) (sym (ap (bare_at c.args.slot.now c.args.inside.now) (sym c.raw.view_is ∙ ap raw_in c.in-Item.is) ∙ bare_item c.args.slot.now c.args.inside.now c.in-Item.place c.in-Item.word c.in-Item.args c.in-Item.body)) c.add_item.ensures.faults

pub add_bare-returns-in-Item-clause-made : goal.add_bare-returns-in-Item-clause-made
add_bare-returns-in-Item-clause-made t c =
    read_there c.add_item.result c.args.slot.now c.args.inside.now c.args.place.now c.in-Item.place c.args.raw.now (item_at c.args.slot.now c.args.inside.now c.in-Item.place c.in-Item.word c.in-Item.args c.in-Item.body) (plans_of c.args.nodes.now.items) (plans_of c.add_item.new.nodes.items)
    (ap (bare_at c.args.slot.now c.args.inside.now) (sym c.raw.view_is ∙ ap raw_in c.in-Item.is) ∙ bare_item c.args.slot.now c.args.inside.now c.in-Item.place c.in-Item.word c.in-Item.args c.in-Item.body)
    (ap (place_at c.args.place.now) (sym c.raw.view_is ∙ ap raw_in c.in-Item.is) ∙ place_item c.args.place.now c.in-Item.place c.in-Item.word c.in-Item.args c.in-Item.body) c.add_item.ensures.made

pub add_bare-returns-in-Number-clause-made : goal.add_bare-returns-in-Number-clause-made
add_bare-returns-in-Number-clause-made t c =
    read_there c.add_number.result c.args.slot.now c.args.inside.now c.args.place.now c.in-Number.place c.args.raw.now (number_shape c.args.slot.now c.in-Number.place c.in-Number.value) (plans_of c.args.nodes.now.items) (plans_of c.add_number.new.nodes.items)
    (ap (bare_at c.args.slot.now c.args.inside.now) (sym c.raw.view_is ∙ ap raw_in c.in-Number.is) ∙ bare_number c.args.slot.now c.args.inside.now c.in-Number.place c.in-Number.value)
    (ap (place_at c.args.place.now) (sym c.raw.view_is ∙ ap raw_in c.in-Number.is) ∙ place_number c.args.place.now c.in-Number.place c.in-Number.value) c.add_number.ensures.made

pub add_bare-returns-in-Text-clause-made : goal.add_bare-returns-in-Text-clause-made
add_bare-returns-in-Text-clause-made t c =
    read_there c.add_text.result c.args.slot.now c.args.inside.now c.args.place.now c.in-Text.place c.args.raw.now (text_shape c.args.slot.now c.in-Text.place c.in-Text.text) (plans_of c.args.nodes.now.items) (plans_of c.add_text.new.nodes.items)
    (ap (bare_at c.args.slot.now c.args.inside.now) (sym c.raw.view_is ∙ ap raw_in c.in-Text.is) ∙ bare_text c.args.slot.now c.args.inside.now c.in-Text.place c.in-Text.text)
    (ap (place_at c.args.place.now) (sym c.raw.view_is ∙ ap raw_in c.in-Text.is) ∙ place_text c.args.place.now c.in-Text.place c.in-Text.text) c.add_text.ensures.made

pub operands-loop-raw-preserved : goal.operands-loop-raw-preserved
operands-loop-raw-preserved t c = record {
  faults = operand_faults slot.Expression c.args.inside.now c.args.args.now c.loop-raw.raw-index c.raw-item.result c.loop-raw.work.faults.items c.add.new.work.faults.items _ c.loop-raw-test.true c.loop-raw.invariant.faults
      (c.in_ok-add.ensures.faults ∙ ap (λ r. c.loop-raw.work.faults.items ++ (shape_at slot.Expression c.args.inside.now r).faults) c.raw-item.is);
  made = operand_made slot.Expression c.args.inside.now c.args.args.now c.loop-raw.raw-index c.raw-item.result (plans_of c.loop-raw.nodes.items) (plans_of c.add.new.nodes.items) _ c.loop-raw-test.true c.loop-raw.invariant.made
      (c.in_ok-add.ensures.made ∙ ap (λ r. join (plans_of c.loop-raw.nodes.items) (one_at nowhere r (shape_at slot.Expression c.args.inside.now r).made)) c.raw-item.is);
}

pub members-loop-raw-preserved : goal.members-loop-raw-preserved
members-loop-raw-preserved t c = record {
  faults = list_faults c.args.slot.now c.args.inside.now c.args.raws.now c.loop-raw.raw-index c.raw-item.result c.loop-raw.work.faults.items c.add_member.new.work.faults.items _ c.loop-raw-test.true c.loop-raw.invariant.faults
      (c.in_ok-add_member.ensures.faults ∙ ap (λ r. c.loop-raw.work.faults.items ++ (member_at c.args.slot.now c.args.inside.now r).faults) c.raw-item.is);
  made = list_made c.args.slot.now c.args.inside.now c.args.raws.now c.loop-raw.raw-index c.raw-item.result (plans_of c.loop-raw.nodes.items) (plans_of c.add_member.new.nodes.items) _ c.loop-raw-test.true c.loop-raw.invariant.made
      (c.in_ok-add_member.ensures.made ∙ ap (λ r. join (plans_of c.loop-raw.nodes.items) (member_at c.args.slot.now c.args.inside.now r).made) c.raw-item.is);
}

pub terms-loop-raw-preserved : goal.terms-loop-raw-preserved
terms-loop-raw-preserved t c =
    let r = c.raw-item.result in
    let run : c.run_after-run.result ≡ run_after_at c.loop-raw.run (get_or c.args.raws.now c.loop-raw.raw-index r) = c.run_after-run.ensures ∙ ap (run_after_at c.loop-raw.run) c.raw-item.is in
    record {
      faults = ap (λ n. c.add_member.new.work.faults.items ++ (terms_at c.args.inside.now n (drop (c.loop-raw.raw-index + 1) c.args.raws.now)).faults) run
          ∙ run_faults c.args.inside.now c.loop-raw.run c.args.raws.now c.loop-raw.raw-index r c.loop-raw.work.faults.items c.add_member.new.work.faults.items _ c.loop-raw-test.true c.loop-raw.invariant.faults
          (c.in_ok-add_member.ensures.faults ∙ ap (λ r. c.loop-raw.work.faults.items ++ (member_at (slot.Term c.loop-raw.run) c.args.inside.now r).faults) c.raw-item.is);
      made = ap (λ n. join (plans_of c.add_member.new.nodes.items) (terms_at c.args.inside.now n (drop (c.loop-raw.raw-index + 1) c.args.raws.now)).made) run
          ∙ run_made c.args.inside.now c.loop-raw.run c.args.raws.now c.loop-raw.raw-index r (plans_of c.loop-raw.nodes.items) (plans_of c.add_member.new.nodes.items) _ c.loop-raw-test.true c.loop-raw.invariant.made
          (c.in_ok-add_member.ensures.made ∙ ap (λ r. join (plans_of c.loop-raw.nodes.items) (member_at (slot.Term c.loop-raw.run) c.args.inside.now r).made) c.raw-item.is);
    }

pub cases-loop-raw-preserved : goal.cases-loop-raw-preserved
cases-loop-raw-preserved t c =
    let r = c.raw-item.result in
    let next : c.default_after-defaulted.result ≡ default_after_at c.loop-raw.defaulted (get_or c.args.raws.now c.loop-raw.raw-index r) = c.default_after-defaulted.ensures ∙ ap (default_after_at c.loop-raw.defaulted) c.raw-item.is in
    record {
      faults = ap (λ n. c.add_member.new.work.faults.items ++ (cases_at c.args.inside.now n (drop (c.loop-raw.raw-index + 1) c.args.raws.now)).faults) next
          ∙ case_faults c.args.inside.now c.loop-raw.defaulted c.args.raws.now c.loop-raw.raw-index r c.loop-raw.work.faults.items c.add_member.new.work.faults.items _ c.loop-raw-test.true c.loop-raw.invariant.faults
          (c.in_ok-add_member.ensures.faults ∙ ap (λ r. c.loop-raw.work.faults.items ++ (member_at (slot.Branch c.loop-raw.defaulted) c.args.inside.now r).faults) c.raw-item.is);
      made = ap (λ n. join (plans_of c.add_member.new.nodes.items) (cases_at c.args.inside.now n (drop (c.loop-raw.raw-index + 1) c.args.raws.now)).made) next
          ∙ case_made c.args.inside.now c.loop-raw.defaulted c.args.raws.now c.loop-raw.raw-index r (plans_of c.loop-raw.nodes.items) (plans_of c.add_member.new.nodes.items) _ c.loop-raw-test.true c.loop-raw.invariant.made
          (c.in_ok-add_member.ensures.made ∙ ap (λ r. join (plans_of c.loop-raw.nodes.items) (member_at (slot.Branch c.loop-raw.defaulted) c.args.inside.now r).made) c.raw-item.is);
    }

pub add_bare-add_item-requires : goal.add_bare-add_item-requires
add_bare-add_item-requires t c = (grind (arith, c.decreases, item_smaller c.args.raw.now c.in-Item.place c.in-Item.word c.in-Item.args c.in-Item.body (sym c.raw.view_is ∙ ap raw_in c.in-Item.is)), tt)

pub add_argument-returns-in_ok-add-in-Some-clause-faults : goal.add_argument-returns-in_ok-add-in-Some-clause-faults
add_argument-returns-in_ok-add-in-Some-clause-faults t c =
    c.in_ok-add-in-Some.ensures.faults ∙ ap (λ q. c.args.work.now.faults.items ++ (shape_at q c.args.inside.now c.in-Some.raw.now).faults) c.slot_of-slot.ensures
    ∙ ap (λ ms. c.args.work.now.faults.items ++ ms) (sym (argument_some_faults c.args.parameter.now c.args.place.now c.args.inside.now (slice_get c.args.args.now c.args.i) c.in-Some.raw.now (got_some c.args.args.now c.args.i c.in-Some.raw.now c.in-Some.ensures.lookup.3.0 ∙ ap Some (sym c.in-Some.ensures.lookup.1))))

pub add_argument-returns-in_ok-add-in-Some-clause-made : goal.add_argument-returns-in_ok-add-in-Some-clause-made
add_argument-returns-in_ok-add-in-Some-clause-made t c =
    c.in_ok-add-in-Some.ensures.made ∙ ap (λ q. join (plans_of c.args.nodes.now.items) (one_at c.args.place.now c.in-Some.raw.now (shape_at q c.args.inside.now c.in-Some.raw.now).made)) c.slot_of-slot.ensures
    ∙ ap (λ ps. join (plans_of c.args.nodes.now.items) ps) (sym (argument_some_made c.args.parameter.now c.args.place.now c.args.inside.now (slice_get c.args.args.now c.args.i) c.in-Some.raw.now (got_some c.args.args.now c.args.i c.in-Some.raw.now c.in-Some.ensures.lookup.3.0 ∙ ap Some (sym c.in-Some.ensures.lookup.1))))

pub add_argument-returns-in_ok-add_missing-in-None-clause-faults : goal.add_argument-returns-in_ok-add_missing-in-None-clause-faults
add_argument-returns-in_ok-add_missing-in-None-clause-faults t c =
    sym (append-nil c.args.work.now.faults.items) ∙ ap (λ ms. c.args.work.now.faults.items ++ ms) (sym (left_faults c.args.parameter.now c.args.place.now c.args.inside.now (slice_get c.args.args.now c.args.i) (got_none c.args.args.now c.args.i c.in-None.ensures.lookup.3)))

pub add_argument-returns-in_ok-add_missing-in-None-clause-made : goal.add_argument-returns-in_ok-add_missing-in-None-clause-made
add_argument-returns-in_ok-add_missing-in-None-clause-made t c =
    c.in_ok-add_missing-in-None.ensures ∙ ap (λ ps. join (plans_of c.args.nodes.now.items) ps) (sym (left_made c.args.parameter.now c.args.place.now c.args.inside.now (slice_get c.args.args.now c.args.i) (got_none c.args.args.now c.args.i c.in-None.ensures.lookup.3)))

pub arguments-loop-i-preserved : goal.arguments-loop-i-preserved
arguments-loop-i-preserved t c = record {
  faults = argument_faults c.args.parameters.now c.args.place.now c.args.inside.now c.args.args.now c.loop-i.i _ c.loop-i.work.faults.items c.add_argument.new.work.faults.items _ c.loop-i-test.true c.loop-i.invariant.faults c.in_ok-add_argument.ensures.faults;
  made = argument_made c.args.parameters.now c.args.place.now c.args.inside.now c.args.args.now c.loop-i.i _ (plans_of c.loop-i.nodes.items) (plans_of c.add_argument.new.nodes.items) _ c.loop-i-test.true c.loop-i.invariant.made c.in_ok-add_argument.ensures.made;
}

pub field_elements-loop-raw-preserved : goal.field_elements-loop-raw-preserved
field_elements-loop-raw-preserved t c =
    let r = c.raw-item.result in
    let next : c.due_behind-due.result ≡ due_behind_at c.loop-raw.due (get_or c.args.raws.now c.loop-raw.raw-index r) = c.due_behind-due.ensures ∙ ap (due_behind_at c.loop-raw.due) c.raw-item.is in
    let later : c.in_ok-unit.unit ≡ unit_at c.loop-raw.due c.loop-raw.unit c.args.inside.now (get_or c.args.raws.now c.loop-raw.raw-index r) = c.in_ok-unit.ensures.unit ∙ ap (unit_at c.loop-raw.due c.loop-raw.unit c.args.inside.now) c.raw-item.is in
    record {
      faults = element_faults c.loop-raw.due c.due_behind-due.result c.loop-raw.unit c.in_ok-unit.unit c.args.inside.now c.args.raws.now c.loop-raw.raw-index r c.loop-raw.work.faults.items c.add_part.new.work.faults.items _ c.loop-raw-test.true next later c.loop-raw.invariant.faults
          (c.in_ok-unit.ensures.faults ∙ ap (λ r. c.loop-raw.work.faults.items ++ (part_at c.loop-raw.due c.loop-raw.unit c.args.inside.now r).faults) c.raw-item.is);
      made = element_made c.loop-raw.due c.due_behind-due.result c.loop-raw.unit c.in_ok-unit.unit c.args.inside.now c.args.raws.now c.loop-raw.raw-index r (plans_of c.loop-raw.nodes.items) (plans_of c.add_part.new.nodes.items) _ c.loop-raw-test.true next later c.loop-raw.invariant.made
          (c.in_ok-unit.ensures.made ∙ ap (λ r. join (plans_of c.loop-raw.nodes.items) (part_at c.loop-raw.due c.loop-raw.unit c.args.inside.now r).made) c.raw-item.is);
    }

pub add-evaluate-requires : goal.add-evaluate-requires
add-evaluate-requires t c =
    let some : 0 < length c.add_bare-2.new.nodes.items = some_behind c.add_bare-2.new.nodes.items (plans_of c.args.nodes.now.items) (place_at c.args.place.now c.args.raw.now) (bare_at c.args.slot.now c.args.inside.now c.args.raw.now).made c.in_ok-add_bare.ensures.made in
    omega arith

pub add-returns-then-len-before-clause-faults : goal.add-returns-then-len-before-clause-faults
add-returns-then-len-before-clause-faults t c =
    let x : Shaped Plan = bare_at c.args.slot.now c.args.inside.now c.args.raw.now in
    let same : length c.add_bare-2.new.work.faults.items ≡ length c.args.work.now.faults.items = omega arith in
    let none : x.faults ≡ [] = none_more c.args.work.now.faults.items x.faults c.add_bare-2.new.work.faults.items c.in_ok-add_bare.ensures.faults same in
    on_ok_weaker c.evaluate.result
    (λ (e : c.evaluate.new.work.faults.items ≡ c.add_bare-2.new.work.faults.items ++ (evaluated c.args.inside.now.width c.args.slot.now c.place_in-own.result (last_plan (plans_of c.add_bare-2.new.nodes.items))).faults).
    clean_faults c.args.inside.now.width c.args.slot.now c.place_in-own.result (place_at c.args.place.now c.args.raw.now) x (plans_of c.args.nodes.now.items) (plans_of c.add_bare-2.new.nodes.items) c.args.work.now.faults.items c.add_bare-2.new.work.faults.items c.evaluate.new.work.faults.items none c.in_ok-add_bare.ensures.made c.in_ok-add_bare.ensures.faults e
    ∙ ap (λ q. c.args.work.now.faults.items ++ (checked c.args.inside.now.width c.args.slot.now q x).faults) c.place_in-own.ensures)
    c.evaluate.ensures.faults

pub add-returns-then-len-before-clause-made : goal.add-returns-then-len-before-clause-made
add-returns-then-len-before-clause-made t c =
    let x : Shaped Plan = bare_at c.args.slot.now c.args.inside.now c.args.raw.now in
    let same : length c.add_bare-2.new.work.faults.items ≡ length c.args.work.now.faults.items = omega arith in
    let none : x.faults ≡ [] = none_more c.args.work.now.faults.items x.faults c.add_bare-2.new.work.faults.items c.in_ok-add_bare.ensures.faults same in
    on_ok_weaker c.evaluate.result
    (λ (e : plans_of c.evaluate.new.nodes.items ≡ with_last (evaluated c.args.inside.now.width c.args.slot.now c.place_in-own.result (last_plan (plans_of c.add_bare-2.new.nodes.items))).made (plans_of c.add_bare-2.new.nodes.items)).
    clean_made c.args.inside.now.width c.args.slot.now c.place_in-own.result (place_at c.args.place.now c.args.raw.now) x (plans_of c.args.nodes.now.items) (plans_of c.add_bare-2.new.nodes.items) (plans_of c.evaluate.new.nodes.items) none c.in_ok-add_bare.ensures.made e
    ∙ ap (λ q. join (plans_of c.args.nodes.now.items) (one_plan (place_at c.args.place.now c.args.raw.now) (checked c.args.inside.now.width c.args.slot.now q x).made)) c.place_in-own.ensures)
    c.evaluate.ensures.made

pub read_term-returns-clause-nodes : goal.read_term-returns-clause-nodes
read_term-returns-clause-nodes t c =
    c.take_last.ensures.rest ∙ ap before_last c.in_ok-add.ensures.made ∙ before_join (plans_of c.args.nodes.now.items) (place_at nowhere c.args.raw.now) (shape_at c.args.slot.now c.args.inside.now c.args.raw.now).made

pub read_term-returns-clause-made : goal.read_term-returns-clause-made
read_term-returns-clause-made t c =
    c.take_last.ensures.term ∙ ap last_plan c.in_ok-add.ensures.made ∙ last_join (plans_of c.args.nodes.now.items) (place_at nowhere c.args.raw.now) (shape_at c.args.slot.now c.args.inside.now c.args.raw.now).made
