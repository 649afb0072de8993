use Rattle.std.proofs.Common.{◌-◌, ◌^◌, min, refl, sym, ap, arith}
use Rattle.asl_tree.specs.View.{trees_of}
use Rattle.core_nodes.specs.Weights.{integer_weight, leaves, leaves_in}
use Rattle.core_nodes.proofs.Terms.{integer_leaves, word_leaves, local_leaves, arg_leaves, debug_leaves, name_leaves, no_leaves, call_is, call_weighed, node_fits, form_weighed}
use Rattle.core_nodes.proofs.Walks.{whole_at, none_yet, one_more, all_done}
use Rattle.core_nodes.proofs.copied.+leaves.Goals as goal

pub leaves_of-returns-in-Integer : goal.leaves_of-returns-in-Integer
leaves_of-returns-in-Integer t c = λ w. let is = integer_leaves (integer_weight c.args.fold) c.args.node.now _ c.in-Integer.is in let one = c.integer_weight.ensures in let le = c.integer_weight.type_inv in omega (arith, is, one, le)

pub leaves_of-returns-in-Word : goal.leaves_of-returns-in-Word
leaves_of-returns-in-Word t c = λ w. let is = word_leaves (integer_weight c.args.fold) c.args.node.now _ c.in-Word.is in let one = c.integer_weight-in-Word.ensures in let le = c.integer_weight-in-Word.type_inv in omega (arith, is, one, le)

pub leaves_of-returns-in-Local : goal.leaves_of-returns-in-Local
leaves_of-returns-in-Local t c = λ w. ap (λ n. min n (2 ^ 64 - 1)) (sym (local_leaves (integer_weight c.args.fold) c.args.node.now _ c.in-Local.is))

pub leaves_of-returns-in-Arg : goal.leaves_of-returns-in-Arg
leaves_of-returns-in-Arg t c = λ w. ap (λ n. min n (2 ^ 64 - 1)) (sym (arg_leaves (integer_weight c.args.fold) c.args.node.now _ c.in-Arg.is))

pub leaves_of-returns-in-Debug : goal.leaves_of-returns-in-Debug
leaves_of-returns-in-Debug t c = λ w. ap (λ n. min n (2 ^ 64 - 1)) (sym (debug_leaves (integer_weight c.args.fold) c.args.node.now c.in-Debug.is))

pub leaves_of-returns-in-Name : goal.leaves_of-returns-in-Name
leaves_of-returns-in-Name t c = λ w. ap (λ n. min n (2 ^ 64 - 1)) (sym (name_leaves (integer_weight c.args.fold) c.args.node.now _ c.in-Name.is))

pub leaves_of-returns-in-Call : goal.leaves_of-returns-in-Call
leaves_of-returns-in-Call t c =
    call_weighed (2 ^ 64 - 1) (integer_weight c.args.fold) c.args.node.now (trees_of c.deref.result.now) c.leaves_among.result c.saturating_add.result c.in-Call.path (call_is c.args.node.now c.in-Call.path c.in-Call.args c.deref.result.now c.in-Call.is c.deref.ensures.value)
    c.leaves_among.ensures c.saturating_add.ensures

pub leaves_of-returns-in-Form : goal.leaves_of-returns-in-Form
leaves_of-returns-in-Form t c = λ w.
    form_weighed (2 ^ 64 - 1) (integer_weight c.args.fold) _ c.in-Form.op (trees_of c.deref-in-Form.result.now) (trees_of c.in-Form.body.items) c.form_leaves.result c.form_leaves.ensures
    (node_fits c.args.node.now c.in-Form.op c.in-Form.args c.in-Form.body c.deref-in-Form.result.now c.in-Form.body.items c.in-Form.is c.deref-in-Form.ensures.value refl w)

pub leaves_of-returns-in_default : goal.leaves_of-returns-in_default
leaves_of-returns-in_default t c = λ w.
    ap (λ n. min n (2 ^ 64 - 1)) (sym (no_leaves (integer_weight c.args.fold) c.args.node.now c.in_default.not-Integer c.in_default.not-Word c.in_default.not-Local c.in_default.not-Arg c.in_default.not-Debug c.in_default.not-Name c.in_default.not-Call c.in_default.not-Form))

pub leaves_among-loop-node-init : goal.leaves_among-loop-node-init
leaves_among-loop-node-init t c = λ w. none_yet (2 ^ 64 - 1) (leaves_in (integer_weight c.args.fold)) (leaves (integer_weight c.args.fold)) c.args.nodes.now

pub leaves_among-loop-node-preserved : goal.leaves_among-loop-node-preserved
leaves_among-loop-node-preserved t c = λ w.
    one_more (2 ^ 64 - 1) (leaves_in (integer_weight c.args.fold)) (leaves (integer_weight c.args.fold)) (λ t ts. refl) c.args.nodes.now c.loop-node.node-index c.loop-node.count c.leaves_of.result c.saturating_add-count.result c.node-item.result c.loop-node-test.true c.node-item.is
    (c.loop-node.invariant w) (c.leaves_of.ensures (whole_at c.args.nodes.now c.loop-node.node-index c.node-item.result c.loop-node-test.true c.node-item.is w)) c.saturating_add-count.ensures

pub leaves_among-returns : goal.leaves_among-returns
leaves_among-returns t c = λ w. all_done (2 ^ 64 - 1) (leaves_in (integer_weight c.args.fold)) (leaves (integer_weight c.args.fold)) refl c.args.nodes.now c.loop-node.node-index c.loop-node.count c.loop-node-test.false (c.loop-node.invariant w)
