use Rattle.std.proofs.Common.{true, false, sym, ◌∙◌}
use Rattle.acpi_names.proofs.Units.{items_next, items_end}
use Rattle.switch_loops.proofs.locals.are_items.Goals as goal

pub loop-node-preserved : goal.loop-node-preserved
loop-node-preserved c =
    sym (items_next c.args.nodes.now c.loop-node.node-index c.node-item.result true c.loop-node-test.true c.node-item.is (sym c.is_item.ensures ∙ c.if-not-is_item.false)) ∙ c.loop-node.invariant

pub returns-then-not-is_item : goal.returns-then-not-is_item
returns-then-not-is_item c =
    sym (items_next c.args.nodes.now c.loop-node.node-index c.node-item.result false c.loop-node-test.true c.node-item.is (sym c.is_item.ensures ∙ c.if-not-is_item.true)) ∙ c.loop-node.invariant

pub returns : goal.returns
returns c = sym (items_end c.args.nodes.now c.loop-node.node-index c.loop-node-test.false) ∙ c.loop-node.invariant
