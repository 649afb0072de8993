use Rattle.std.proofs.Common.{◌-◌, ◌^◌, min, refl, sym, ap}
use Rattle.asl_tree.specs.View.{trees_of}
use Rattle.core_nodes.specs.Nodes.{nodes_of, nodes_in}
use Rattle.core_nodes.proofs.Terms.{leaf_nodes, call_is, call_counted, node_fits, form_counted}
use Rattle.core_nodes.proofs.Walks.{whole_at, none_yet, one_more, all_done}
use Rattle.core_nodes.proofs.count.+count.Goals as goal

pub counted_in-returns-in-Call : goal.counted_in-returns-in-Call
counted_in-returns-in-Call t c =
    call_counted (2 ^ 64 - 1) c.args.node.now (trees_of c.deref.result.now) c.counted.result c.saturating_add.result c.in-Call.path (call_is c.args.node.now c.in-Call.path c.in-Call.args c.deref.result.now c.in-Call.is c.deref.ensures.value)
    c.counted.ensures c.saturating_add.ensures

pub counted_in-returns-in-Form : goal.counted_in-returns-in-Form
counted_in-returns-in-Form t c = λ w.
    form_counted (2 ^ 64 - 1) _ c.in-Form.op (trees_of c.deref-in-Form.result.now) (trees_of c.deref-in-Form-2.result.now) c.counted-in-Form.result c.braces_nodes.result c.own_nodes.result c.saturating_add-in-Form.result
    c.saturating_add-in-Form-2.result c.counted-in-Form.ensures c.braces_nodes.ensures c.saturating_add-in-Form.ensures c.own_nodes.ensures c.saturating_add-in-Form-2.ensures
    (node_fits c.args.node.now c.in-Form.op c.in-Form.args c.in-Form.body c.deref-in-Form.result.now c.deref-in-Form-2.result.now c.in-Form.is c.deref-in-Form.ensures.value c.deref-in-Form-2.ensures.value w)

pub counted_in-returns-in_default : goal.counted_in-returns-in_default
counted_in-returns-in_default t c = λ w. sym (ap (λ n. min n (2 ^ 64 - 1)) (leaf_nodes c.args.node.now c.in_default.not-Call c.in_default.not-Form))

pub counted-loop-node-init : goal.counted-loop-node-init
counted-loop-node-init t c = λ w. none_yet (2 ^ 64 - 1) nodes_in nodes_of c.args.terms.now

pub counted-loop-node-preserved : goal.counted-loop-node-preserved
counted-loop-node-preserved t c = λ w.
    one_more (2 ^ 64 - 1) nodes_in nodes_of (λ t ts. refl) c.args.terms.now c.loop-node.node-index c.loop-node.count c.counted_in.result c.saturating_add-count.result c.node-item.result c.loop-node-test.true c.node-item.is
    (c.loop-node.invariant w) (c.counted_in.ensures (whole_at c.args.terms.now c.loop-node.node-index c.node-item.result c.loop-node-test.true c.node-item.is w)) c.saturating_add-count.ensures

pub counted-returns : goal.counted-returns
counted-returns t c = λ w. all_done (2 ^ 64 - 1) nodes_in nodes_of refl c.args.terms.now c.loop-node.node-index c.loop-node.count c.loop-node-test.false (c.loop-node.invariant w)
