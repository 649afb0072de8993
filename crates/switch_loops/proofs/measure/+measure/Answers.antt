use Rattle.std.proofs.Common.{arith, refl, ap, ◌∙◌}
use Rattle.asl_tree.specs.View.{trees_of}
use Rattle.acpi_names.proofs.Trees.{node_smaller}
use Rattle.switch_loops.specs.Measures.{measured, both}
use Rattle.switch_loops.proofs.KindRows.{measured_shape, measured_other}
use Rattle.switch_loops.proofs.Measured.{nothing_both, measured_next, measured_end}
use Rattle.switch_loops.proofs.measure.+measure.Goals as goal

pub measure_within-measure_all-requires : goal.measure_within-measure_all-requires
measure_within-measure_all-requires t c = omega (arith, c.decreases)

pub measure_node-measure_within-requires : goal.measure_node-measure_within-requires
measure_node-measure_within-requires t c = omega (arith, c.decreases, c.in-Form.ensures.size)

pub measure_node-returns-in-Form : goal.measure_node-returns-in-Form
measure_node-returns-in-Form t c =
    measured_shape c.args.node.now c.in-Form.op c.in-Form.args.now c.in-Form.body.now c.form_kind.result (measured (trees_of c.in-Form.body.now)) c.measure_within.result c.in-Form.ensures.shape c.form_kind.ensures refl c.measure_within.ensures

pub measure_node-returns-in_default : goal.measure_node-returns-in_default
measure_node-returns-in_default t c = c.nothing.ensures ∙ measured_other c.args.node.now c.shape_of.result c.shape_of.ensures.shape c.in_default.not-Form

pub measure_all-measure_node-requires : goal.measure_all-measure_node-requires
measure_all-measure_node-requires t c = omega (arith, c.decreases, node_smaller c.args.nodes.now c.loop-node.node-index c.node-item.result c.loop-node-test.true c.node-item.is)

pub measure_all-loop-node-init : goal.measure_all-loop-node-init
measure_all-loop-node-init t c = ap (λ m. both m (measured (trees_of c.args.nodes.now))) c.nothing-found.ensures ∙ nothing_both (measured (trees_of c.args.nodes.now))

pub measure_all-loop-node-preserved : goal.measure_all-loop-node-preserved
measure_all-loop-node-preserved t c =
    measured_next c.args.nodes.now c.loop-node.node-index c.node-item.result c.loop-node.found c.beside-found.result c.measure_node.result (measured (trees_of c.args.nodes.now)) c.loop-node-test.true c.node-item.is c.beside-found.ensures c.measure_node.ensures c.loop-node.invariant

pub measure_all-returns : goal.measure_all-returns
measure_all-returns t c = measured_end c.args.nodes.now c.loop-node.node-index c.loop-node.found (measured (trees_of c.args.nodes.now)) c.loop-node-test.false c.loop-node.invariant
