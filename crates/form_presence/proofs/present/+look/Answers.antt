use Rattle.std.proofs.Common.{◌≡◌, ◌+◌, length, sym, ap, ◌∙◌, refl, subst, arith}
use Rattle.std.specs.Prelude.{◌||◌}
use Rattle.term_plans.specs.Plans.{a_call, a_form, plan_of, plans_of}
use Rattle.term_plans.proofs.Terms.{fill_term}
use Rattle.asl_numbers.specs.Numbers.{inside}
use Rattle.asl_numbers.proofs.Loops.{smaller}
use Rattle.asl_numbers.proofs.Trees.{none_inside}
use Rattle.form_presence.specs.Kinds.{is_seen}
use Rattle.form_presence.proofs.Terms.{call_is, form_is, none_of}
use Rattle.form_presence.proofs.Walks.{IsSeen, in_call, each_kind, none_seen, next_seen, leaf_passed, fill_passed, all_noted, all_counted, form_noted, no_terms, no_nodes}
use Rattle.form_presence.proofs.present.+look.Goals.{look-in-Call, look-in-Form, look-in-Fill, look-in_default}
use Rattle.form_presence.proofs.present.+look.Goals as goal

pub look-loop-node-init : goal.look-loop-node-init
look-loop-node-init t c =
    none_seen c.args.seen.now _ c.args.terms.now (each_kind c.args.seen.now c.saturating_add-seen.result) c.saturating_add-seen.ensures

pub look-look-requires : goal.look-look-requires
look-look-requires t c =
    let less = smaller c.args.terms.now c.args.terms.now c.loop-node.node-index c.node-item.result c.loop-node-test.true c.node-item.is refl in
    let size = ap inside (call_is c.node-item.result.term c.in-Call.path c.in-Call.args c.deref.result.now c.in-Call.is c.deref.ensures.value) in
    omega (arith, c.decreases, less, size)

pub look-look_in-requires : goal.look-look_in-requires
look-look_in-requires t c =
    let less = smaller c.args.terms.now c.args.terms.now c.loop-node.node-index c.node-item.result c.loop-node-test.true c.node-item.is refl in
    let size = ap inside (form_is c.node-item.result.term c.in-Form.op c.in-Form.args c.in-Form.body c.deref-in-Form.result.now c.deref-in-Form-2.result.now c.in-Form.is c.deref-in-Form.ensures.value c.deref-in-Form-2.ensures.value) in
    omega (arith, c.decreases, less, size)

pub look-loop-node-preserved : goal.look-loop-node-preserved
look-loop-node-preserved t c =
    let old = c.args.seen.now in
    let now = c.loop-node.seen in
    let terms = c.args.terms.now in
    let i = c.loop-node.node-index in
    let node = c.node-item.result in
    elim c.match-node.branch [
      | look-in-Call w ↦ subst (IsSeen old terms (i + 1)) (sym w.seen-is)
          (next_seen old now w.look.new.seen terms i node (a_call w.in-Call.path (plans_of w.deref.result.now)) c.loop-node-test.true c.node-item.is
          (call_is node.term w.in-Call.path w.in-Call.args w.deref.result.now w.in-Call.is w.deref.ensures.value) c.loop-node.invariant
          (λ kind. w.look.ensures.kinds kind ∙ ap (λ b. b || is_seen kind now) (sym (in_call kind w.in-Call.path (plans_of w.deref.result.now)))) w.look.ensures.nodes)
      | look-in-Form w ↦ subst (IsSeen old terms (i + 1)) (sym w.seen-is)
          (next_seen old now w.look_in.new.seen terms i node (a_form w.in-Form.op (plans_of w.deref-in-Form.result.now) (plans_of w.deref-in-Form-2.result.now)) c.loop-node-test.true c.node-item.is
          (form_is node.term w.in-Form.op w.in-Form.args w.in-Form.body w.deref-in-Form.result.now w.deref-in-Form-2.result.now w.in-Form.is w.deref-in-Form.ensures.value w.deref-in-Form-2.ensures.value)
          c.loop-node.invariant w.look_in.ensures.kinds w.look_in.ensures.nodes)
      | look-in-Fill w ↦ subst (IsSeen old terms (i + 1)) (sym w.seen-is)
          (fill_passed old now w.note_names.new.seen terms i node w.in-Fill.bytes w.in-Fill.named c.loop-node-test.true c.node-item.is (ap plan_of w.in-Fill.is ∙ fill_term w.in-Fill.bytes w.in-Fill.named) c.loop-node.invariant
          (λ kind. w.note_names.ensures.kinds kind w.in-Fill.bytes) w.note_names.ensures.nodes)
      | look-in_default w ↦ subst (IsSeen old terms (i + 1)) (sym w.seen-is)
          (leaf_passed old now terms i node c.loop-node-test.true c.node-item.is (λ kind. none_of kind node.term w.in_default.not-Fill w.in_default.not-Call w.in_default.not-Form)
          (none_inside node.term w.in_default.not-Call w.in_default.not-Form) c.loop-node.invariant)
    ]

pub look-returns-clause-kinds : goal.look-returns-clause-kinds
look-returns-clause-kinds t c = all_noted c.args.seen.now c.loop-node.seen c.args.terms.now c.loop-node.node-index c.loop-node-test.false c.loop-node.invariant

pub look-returns-clause-nodes : goal.look-returns-clause-nodes
look-returns-clause-nodes t c = all_counted c.args.seen.now c.loop-node.seen c.args.terms.now c.loop-node.node-index c.loop-node-test.false c.loop-node.invariant

pub look_in-returns-clause-kinds : goal.look_in-returns-clause-kinds
look_in-returns-clause-kinds t c =
    form_noted c.args.seen.now c.note.new.seen c.look_within.new.seen c.look_within-2.new.seen c.args.op (plans_of c.args.args.now) (plans_of c.args.body.now) c.note.ensures.kinds c.look_within.ensures.kinds c.look_within-2.ensures.kinds

pub look_within-returns-then-is_empty-clause-kinds : goal.look_within-returns-then-is_empty-clause-kinds
look_within-returns-then-is_empty-clause-kinds t c kind =
    let none : length c.args.terms.now ≡ 0 = grind (arith, c.is_empty.ensures, c.if-is_empty.true) in no_terms kind c.args.terms.now c.args.seen.now none

pub look_within-returns-then-is_empty-clause-nodes : goal.look_within-returns-then-is_empty-clause-nodes
look_within-returns-then-is_empty-clause-nodes t c =
    let none : length c.args.terms.now ≡ 0 = grind (arith, c.is_empty.ensures, c.if-is_empty.true) in
    let zero = no_nodes c.args.terms.now none in
    omega (arith, zero)
