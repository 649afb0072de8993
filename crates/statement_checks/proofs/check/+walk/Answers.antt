use Rattle.std.proofs.Common.{◌≡◌, ◌++◌, length, sym, ap, ◌∙◌, refl, append-nil, arith}
use Rattle.term_plans.specs.Plans.{plan_of, plans_of}
use Rattle.term_plans.proofs.Terms.{arg_term}
use Rattle.asl_numbers.proofs.Loops.{smaller}
use Rattle.statement_checks.specs.Statements.{around_body, term_errors, argument_errors}
use Rattle.statement_checks.proofs.Terms.{call_is, inside_call, inside_form, form_is, form_told, plain_told, none_behind, nothing_wrong}
use Rattle.statement_checks.proofs.Walk.{next_checked, all_checked}
use Rattle.statement_checks.proofs.check.+walk.Goals as goal

pub all_errors-term_errors-requires : goal.all_errors-term_errors-requires
all_errors-term_errors-requires t c = omega (arith, c.decreases, smaller c.args.nodes.now c.args.nodes.now c.loop-node.node-index c.node-item.result c.loop-node-test.true c.node-item.is refl)

pub all_errors-loop-node-preserved : goal.all_errors-loop-node-preserved
all_errors-loop-node-preserved t c =
    next_checked c.args.around.now c.args.nodes.now c.loop-node.node-index c.node-item.result c.args.out.now c.loop-node.out c.term_errors.new.out c.loop-node-test.true c.node-item.is c.loop-node.invariant c.in_ok-term_errors.ensures

pub all_errors-returns : goal.all_errors-returns
all_errors-returns t c = all_checked c.args.around.now c.args.nodes.now c.loop-node.node-index c.args.out.now c.loop-node.out c.loop-node-test.false c.loop-node.invariant

pub term_errors-all_errors-requires : goal.term_errors-all_errors-requires
term_errors-all_errors-requires t c = omega (arith, c.decreases, inside_call c.args.node.now.term c.in-Call.path c.in-Call.args c.deref.result.now c.in-Call.is c.deref.ensures.value)

pub term_errors-errors_in_form-requires : goal.term_errors-errors_in_form-requires
term_errors-errors_in_form-requires t c = omega (arith, c.decreases, inside_form c.args.node.now.term c.in-Form.op c.in-Form.args c.in-Form.body c.deref-in-Form.result.now c.deref-in-Form-2.result.now c.in-Form.is c.deref-in-Form.ensures.value c.deref-in-Form-2.ensures.value)

pub term_errors-returns-in_ok-tell_if-in-Arg : goal.term_errors-returns-in_ok-tell_if-in-Arg
term_errors-returns-in_ok-tell_if-in-Arg t c =
    c.in_ok-tell_if-in-Arg.ensures ∙ ap (λ i. c.args.out.now ++ argument_errors c.args.around.now c.args.node.now.place i) c.from.ensures
    ∙ ap (λ x. c.args.out.now ++ term_errors c.args.around.now c.args.node.now.place x) (sym (ap plan_of c.in-Arg.is ∙ arg_term c.in-Arg.index))

pub term_errors-returns-in_ok-all_errors-in-Call : goal.term_errors-returns-in_ok-all_errors-in-Call
term_errors-returns-in_ok-all_errors-in-Call t c =
    c.in_ok-all_errors-in-Call.ensures
    ∙ ap (λ x. c.args.out.now ++ term_errors c.args.around.now c.args.node.now.place x) (sym (call_is c.args.node.now.term c.in-Call.path c.in-Call.args c.deref.result.now c.in-Call.is c.deref.ensures.value))

pub term_errors-returns-in_ok-errors_in_form-in-Form : goal.term_errors-returns-in_ok-errors_in_form-in-Form
term_errors-returns-in_ok-errors_in_form-in-Form t c =
    c.in_ok-errors_in_form-in-Form.ensures
    ∙ ap (λ x. c.args.out.now ++ term_errors c.args.around.now c.args.node.now.place x) (sym (form_is c.args.node.now.term c.in-Form.op c.in-Form.args c.in-Form.body c.deref-in-Form.result.now c.deref-in-Form-2.result.now c.in-Form.is c.deref-in-Form.ensures.value c.deref-in-Form-2.ensures.value))

pub errors_in_form-returns : goal.errors_in_form-returns
errors_in_form-returns t c =
    plain_told c.args.around.now _ c.args.out.now c.all_errors.new.out c.all_errors-2.new.out (plans_of c.args.args.now) (plans_of c.args.body.now) (c.is_statement.ensures c.if-is_statement.false c.args.node.now.place (plans_of c.args.args.now) (plans_of c.args.body.now) c.args.around.now)
    c.in_ok-all_errors.ensures c.in_ok-all_errors-2.ensures

pub errors_in_form-returns-then-is_empty : goal.errors_in_form-returns-then-is_empty
errors_in_form-returns-then-is_empty t c =
    let none : length c.args.body.now ≡ 0 = grind (arith, c.is_empty.ensures, c.if-is_empty.true) in
    plain_told c.args.around.now _ c.args.out.now c.all_errors.new.out c.all_errors.new.out (plans_of c.args.args.now) (plans_of c.args.body.now) (c.is_statement.ensures c.if-is_statement.false c.args.node.now.place (plans_of c.args.args.now) (plans_of c.args.body.now) c.args.around.now)
    c.in_ok-all_errors.ensures (none_behind c.args.around.now c.args.body.now c.all_errors.new.out none)

pub form_errors-returns : goal.form_errors-returns
form_errors-returns t c =
    form_told c.args.around.now c.around_body-inner.result c.args.place c.args.op (plans_of c.args.args.now) (plans_of c.args.body.now)
    c.misses_loop.result c.args.out.now c.tell_if.new.out c.all_errors.new.out c.all_errors-2.new.out
    c.misses_loop.ensures c.around_body-inner.ensures c.in_ok-tell_if.ensures c.in_ok-all_errors.ensures c.in_ok-all_errors-2.ensures

pub form_errors-returns-then-is_empty : goal.form_errors-returns-then-is_empty
form_errors-returns-then-is_empty t c =
    let none : length c.args.body.now ≡ 0 = grind (arith, c.is_empty.ensures, c.if-is_empty.true) in
    let inner = around_body c.args.op (plans_of c.args.args.now) c.args.around.now in
    form_told c.args.around.now inner c.args.place c.args.op (plans_of c.args.args.now) (plans_of c.args.body.now)
    c.misses_loop.result c.args.out.now c.tell_if.new.out c.all_errors.new.out c.all_errors.new.out
    c.misses_loop.ensures refl c.in_ok-tell_if.ensures c.in_ok-all_errors.ensures (none_behind inner c.args.body.now c.all_errors.new.out none)

pub term_errors-returns-in_default : goal.term_errors-returns-in_default
term_errors-returns-in_default t c =
    sym (append-nil c.args.out.now) ∙ ap (λ ms. c.args.out.now ++ ms) (sym (nothing_wrong c.args.around.now c.args.node.now.place c.args.node.now.term c.in_default.not-Arg c.in_default.not-Call c.in_default.not-Form))
