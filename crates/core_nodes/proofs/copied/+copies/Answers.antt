use Rattle.std.proofs.Common.{◌-◌, ◌^◌, min, refl, sym, ap}
use Rattle.asl_tree.specs.Tree.{no_trees, tree}
use Rattle.asl_tree.specs.View.{trees_of}
use Rattle.core_nodes.specs.Weights.{integer_weight, copied, copied_in, copied_cases, copied_default}
use Rattle.core_nodes.proofs.Terms.{node_fits, copies_weighed, case_weighed, default_weighed, no_copies, no_cases, no_default, cases_add}
use Rattle.core_nodes.proofs.Walks.{whole_at, none_yet, one_more, all_done, none_found, not_found, first_found, never_found}
use Rattle.core_nodes.proofs.Capped.{for_weighed, switch_weighed}
use Rattle.core_nodes.proofs.copied.+copies.Goals as goal

pub form_copied-returns-in-Control-For : goal.form_copied-returns-in-Control-For
form_copied-returns-in-Control-For t c =
    let is = rw c.in-Control-For.is at c.in-Control-For.field-0-is in
    for_weighed (integer_weight c.args.fold) (2 ^ 64 - 1) c.step_leaves.result c.args.step c.args.op c.in-Control-For.field-0 (trees_of c.args.args.now) (trees_of c.args.body.now) c.weighed.result c.in-Control-For.is is c.step_leaves.ensures
    c.weighed.ensures

pub form_copied-returns-in-Control-Switch : goal.form_copied-returns-in-Control-Switch
form_copied-returns-in-Control-Switch t c = λ v.
    let is = rw c.in-Control-Switch.is at c.in-Control-Switch.field-0-is in
    switch_weighed (integer_weight c.args.fold) (2 ^ 64 - 1) c.args.step c.args.op c.in-Control-Switch.field-0 (trees_of c.args.args.now) (trees_of c.args.body.now) c.cases_weighed.result c.default_weighed.result c.saturating_add.result c.in-Control-Switch.is is
    c.cases_weighed.ensures c.default_weighed.ensures c.saturating_add.ensures

pub weighed_case-returns-in-Form : goal.weighed_case-returns-in-Form
weighed_case-returns-in-Form t c = λ w.
    case_weighed (2 ^ 64 - 1) (integer_weight c.args.fold) c.args.step _ c.in-Form.op (trees_of c.in-Form.args.items) (trees_of c.deref.result.now) c.case_copied.result c.case_copied.ensures
    (node_fits c.args.node.now c.in-Form.op c.in-Form.args c.in-Form.body c.in-Form.args.items c.deref.result.now c.in-Form.is refl c.deref.ensures.value w)

pub weighed_case-returns-in_default : goal.weighed_case-returns-in_default
weighed_case-returns-in_default t c = λ w. ap (λ n. min n (2 ^ 64 - 1)) (sym (no_cases (integer_weight c.args.fold) c.args.step c.args.node.now c.in_default.not-Form))

pub cases_weighed-loop-node-init : goal.cases_weighed-loop-node-init
cases_weighed-loop-node-init t c = λ w. none_yet (2 ^ 64 - 1) (copied_cases (integer_weight c.args.fold) c.args.step) (λ t. copied_cases (integer_weight c.args.fold) c.args.step (tree t no_trees)) c.args.cases.now

pub cases_weighed-loop-node-preserved : goal.cases_weighed-loop-node-preserved
cases_weighed-loop-node-preserved t c = λ w.
    one_more (2 ^ 64 - 1) (copied_cases (integer_weight c.args.fold) c.args.step) (λ t. copied_cases (integer_weight c.args.fold) c.args.step (tree t no_trees)) (cases_add (integer_weight c.args.fold) c.args.step) c.args.cases.now c.loop-node.node-index c.loop-node.count c.weighed_case.result c.saturating_add-count.result
    c.node-item.result c.loop-node-test.true c.node-item.is (c.loop-node.invariant w) (c.weighed_case.ensures (whole_at c.args.cases.now c.loop-node.node-index c.node-item.result c.loop-node-test.true c.node-item.is w)) c.saturating_add-count.ensures

pub cases_weighed-returns : goal.cases_weighed-returns
cases_weighed-returns t c = λ w.
    all_done (2 ^ 64 - 1) (copied_cases (integer_weight c.args.fold) c.args.step) (λ t. copied_cases (integer_weight c.args.fold) c.args.step (tree t no_trees)) refl c.args.cases.now c.loop-node.node-index c.loop-node.count c.loop-node-test.false (c.loop-node.invariant w)

pub weighed_default-returns-in-Form : goal.weighed_default-returns-in-Form
weighed_default-returns-in-Form t c = λ w.
    default_weighed (2 ^ 64 - 1) (integer_weight c.args.fold) c.args.step _ c.in-Form.op (trees_of c.in-Form.args.items) (trees_of c.deref.result.now) c.default_copied.result c.default_copied.ensures
    (node_fits c.args.node.now c.in-Form.op c.in-Form.args c.in-Form.body c.in-Form.args.items c.deref.result.now c.in-Form.is refl c.deref.ensures.value w)

pub weighed_default-returns-in_default : goal.weighed_default-returns-in_default
weighed_default-returns-in_default t c = λ w behind. ap (λ n. min n (2 ^ 64 - 1)) (sym (no_default (integer_weight c.args.fold) c.args.step c.args.node.now behind c.in_default.not-Form))

pub default_weighed-loop-node-init : goal.default_weighed-loop-node-init
default_weighed-loop-node-init t c = λ w. none_found (2 ^ 64 - 1) (copied_default (integer_weight c.args.fold) c.args.step) c.args.cases.now

pub default_weighed-loop-node-preserved : goal.default_weighed-loop-node-preserved
default_weighed-loop-node-preserved t c = λ w.
    not_found (2 ^ 64 - 1) (copied_default (integer_weight c.args.fold) c.args.step) c.args.cases.now c.loop-node.node-index c.node-item.result c.loop-node-test.true c.node-item.is (c.loop-node.invariant w)
    (c.in_default.ensures (whole_at c.args.cases.now c.loop-node.node-index c.node-item.result c.loop-node-test.true c.node-item.is w))

pub default_weighed-returns-in-Some : goal.default_weighed-returns-in-Some
default_weighed-returns-in-Some t c = λ w.
    first_found (2 ^ 64 - 1) (copied_default (integer_weight c.args.fold) c.args.step) c.args.cases.now c.loop-node.node-index c.in-Some.weight c.node-item.result c.loop-node-test.true c.node-item.is (c.loop-node.invariant w)
    (c.in-Some.ensures (whole_at c.args.cases.now c.loop-node.node-index c.node-item.result c.loop-node-test.true c.node-item.is w))

pub default_weighed-returns : goal.default_weighed-returns
default_weighed-returns t c = λ w. never_found (2 ^ 64 - 1) (copied_default (integer_weight c.args.fold) c.args.step) c.args.cases.now refl c.loop-node.node-index c.loop-node-test.false (c.loop-node.invariant w)

pub weighed_in-returns-in-Form : goal.weighed_in-returns-in-Form
weighed_in-returns-in-Form t c = λ w.
    copies_weighed (2 ^ 64 - 1) (integer_weight c.args.fold) c.args.step _ c.in-Form.op (trees_of c.deref-in-Form.result.now) (trees_of c.deref.result.now) c.form_copied.result c.form_copied.ensures
    (node_fits c.args.node.now c.in-Form.op c.in-Form.args c.in-Form.body c.deref-in-Form.result.now c.deref.result.now c.in-Form.is c.deref-in-Form.ensures.value c.deref.ensures.value w)

pub weighed_in-returns-in_default : goal.weighed_in-returns-in_default
weighed_in-returns-in_default t c = λ w. ap (λ n. min n (2 ^ 64 - 1)) (sym (no_copies (integer_weight c.args.fold) c.args.step c.args.node.now c.in_default.not-Form))

pub weighed-loop-node-init : goal.weighed-loop-node-init
weighed-loop-node-init t c = λ w. none_yet (2 ^ 64 - 1) (copied_in (integer_weight c.args.fold) c.args.step) (copied (integer_weight c.args.fold) c.args.step) c.args.terms.now

pub weighed-loop-node-preserved : goal.weighed-loop-node-preserved
weighed-loop-node-preserved t c = λ w.
    one_more (2 ^ 64 - 1) (copied_in (integer_weight c.args.fold) c.args.step) (copied (integer_weight c.args.fold) c.args.step) (λ t ts. refl) c.args.terms.now c.loop-node.node-index c.loop-node.count c.weighed_in.result c.saturating_add-count.result c.node-item.result c.loop-node-test.true c.node-item.is
    (c.loop-node.invariant w) (c.weighed_in.ensures (whole_at c.args.terms.now c.loop-node.node-index c.node-item.result c.loop-node-test.true c.node-item.is w)) c.saturating_add-count.ensures

pub weighed-returns : goal.weighed-returns
weighed-returns t c = λ w. all_done (2 ^ 64 - 1) (copied_in (integer_weight c.args.fold) c.args.step) (copied (integer_weight c.args.fold) c.args.step) refl c.args.terms.now c.loop-node.node-index c.loop-node.count c.loop-node-test.false (c.loop-node.invariant w)
