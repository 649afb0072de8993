use Rattle.std.proofs.Common.{◌≡◌, ◌++◌, length, sym, ap, ◌∙◌, refl, append-nil, arith}
use Rattle.asl_numbers.proofs.Loops.{smaller}
use Rattle.type_checks.specs.Sizes.{term_errors}
use Rattle.type_checks.proofs.Terms.{call_is, inside_call, inside_form}
use Rattle.type_checks.proofs.Listing.{next_listed, all_listed, none_listed, none_long, form_listed}
use Rattle.type_checks.proofs.size.+lists.Goals as goal

pub all_errors-term_errors-requires : goal.all_errors-term_errors-requires
all_errors-term_errors-requires t c = omega (arith, c.decreases, smaller c.args.nodes.now c.args.nodes.now c.loop-node.node-index c.node-item.result c.loop-node-test.true c.node-item.is refl)

pub all_errors-loop-node-preserved : goal.all_errors-loop-node-preserved
all_errors-loop-node-preserved t c =
    next_listed c.args.width c.args.nodes.now c.loop-node.node-index c.node-item.result c.args.out.now c.loop-node.out c.term_errors.new.out c.loop-node-test.true c.node-item.is c.loop-node.invariant c.in_ok-term_errors.ensures

pub all_errors-returns : goal.all_errors-returns
all_errors-returns t c = all_listed c.args.width c.args.nodes.now c.loop-node.node-index c.args.out.now c.loop-node.out c.loop-node-test.false c.loop-node.invariant

pub term_errors-all_errors-requires : goal.term_errors-all_errors-requires
term_errors-all_errors-requires t c = omega (arith, c.decreases, inside_call c.args.node.now.term c.in-Call.path c.in-Call.args c.deref.result.now c.in-Call.is c.deref.ensures.value)

pub term_errors-all_errors-requires-in-Form : goal.term_errors-all_errors-requires-in-Form
term_errors-all_errors-requires-in-Form t c = omega (arith, c.decreases, inside_form c.args.node.now.term c.in-Form.op c.in-Form.args c.in-Form.body c.deref-in-Form-3.result.now c.in-Form.body.items c.in-Form.is c.deref-in-Form-3.ensures.value refl)

pub term_errors-all_errors-requires-in-Form-2 : goal.term_errors-all_errors-requires-in-Form-2
term_errors-all_errors-requires-in-Form-2 t c = omega (arith, c.decreases, inside_form c.args.node.now.term c.in-Form.op c.in-Form.args c.in-Form.body c.in-Form.args.items c.deref-in-Form-4.result.now c.in-Form.is refl c.deref-in-Form-4.ensures.value)

pub term_errors-returns-in_ok-all_errors-in-Call : goal.term_errors-returns-in_ok-all_errors-in-Call
term_errors-returns-in_ok-all_errors-in-Call t c =
    c.in_ok-all_errors-in-Call.ensures
    ∙ ap (λ x. c.args.out.now ++ term_errors c.args.width c.args.node.now.place x) (sym (call_is c.args.node.now.term c.in-Call.path c.in-Call.args c.deref.result.now c.in-Call.is c.deref.ensures.value))

pub term_errors-returns-in_ok-all_errors-in-Form-2 : goal.term_errors-returns-in_ok-all_errors-in-Form-2
term_errors-returns-in_ok-all_errors-in-Form-2 t c =
    form_listed c.args.width c.args.node.now.place c.args.node.now.term c.in-Form.op c.in-Form.args c.in-Form.body c.deref-in-Form.result.now c.deref-in-Form-3.result.now c.deref-in-Form-4.result.now c.deref-in-Form-2.result.now
    c.args.out.now c.size_errors.new.out c.all_errors-in-Form.new.out c.all_errors-in-Form-2.new.out
    c.in-Form.is c.deref-in-Form.ensures.value c.deref-in-Form-2.ensures.value c.deref-in-Form-3.ensures.value c.deref-in-Form-4.ensures.value
    c.in_ok-size_errors-in-Form.ensures c.in_ok-all_errors-in-Form.ensures c.in_ok-all_errors-in-Form-2.ensures

pub term_errors-returns-then-is_empty : goal.term_errors-returns-then-is_empty
term_errors-returns-then-is_empty t c =
    let none : length c.in-Form.body.items ≡ 0 = grind (arith, c.is_empty.ensures, c.if-is_empty.true) in
    form_listed c.args.width c.args.node.now.place c.args.node.now.term c.in-Form.op c.in-Form.args c.in-Form.body c.deref-in-Form.result.now c.deref-in-Form-3.result.now c.in-Form.body.items c.deref-in-Form-2.result.now
    c.args.out.now c.size_errors.new.out c.all_errors-in-Form.new.out c.all_errors-in-Form.new.out
    c.in-Form.is c.deref-in-Form.ensures.value c.deref-in-Form-2.ensures.value c.deref-in-Form-3.ensures.value refl
    c.in_ok-size_errors-in-Form.ensures c.in_ok-all_errors-in-Form.ensures (none_listed c.args.width c.in-Form.body.items c.all_errors-in-Form.new.out none)

pub term_errors-returns-in_default : goal.term_errors-returns-in_default
term_errors-returns-in_default t c =
    sym (append-nil c.args.out.now) ∙ ap (λ ms. c.args.out.now ++ ms) (sym (none_long c.args.width c.args.node.now.place c.args.node.now.term c.in_default.not-Call c.in_default.not-Form))
