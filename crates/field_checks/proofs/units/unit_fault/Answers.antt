use Rattle.std.proofs.Common.{◌∙◌}
use Rattle.field_checks.proofs.UnitFaults.{next_unit, unit_here, units_end}
use Rattle.field_checks.proofs.units.unit_fault.Goals as goal

pub returns-in-Some : goal.returns-in-Some
returns-in-Some c =
    unit_here c.args.space c.loop-node.said c.args.body.now c.loop-node.node-index c.in-Some.number c.node-item.result c.serial_item-item.result
    c.loop-node-test.true c.node-item.is c.serial_item-item.ensures c.in-Some.ensures ∙ c.loop-node.invariant

pub loop-node-preserved : goal.loop-node-preserved
loop-node-preserved c =
    next_unit c.args.space c.loop-node.said c.said_behind-said.result c.args.body.now c.loop-node.node-index c.node-item.result c.serial_item-item.result
    c.loop-node-test.true c.node-item.is c.serial_item-item.ensures c.in-None.ensures c.said_behind-said.ensures ∙ c.loop-node.invariant

pub returns : goal.returns
returns c = units_end c.args.space c.loop-node.said c.args.body.now c.loop-node.node-index c.loop-node-test.false ∙ c.loop-node.invariant
