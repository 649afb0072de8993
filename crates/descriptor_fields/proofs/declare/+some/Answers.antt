use Rattle.std.proofs.Common.{◌≡◌, length, sym, arith}
use Rattle.descriptor_fields.proofs.Walks.{next_unnamed, named_here, none_named, last_unnamed}
use Rattle.descriptor_fields.proofs.declare.+some.Goals as goal

pub names_descriptors-loop-node-preserved : goal.names_descriptors-loop-node-preserved
names_descriptors-loop-node-preserved t c = next_unnamed c.args.nodes.now c.loop-node.node-index c.node-item.result c.names_descriptor.result _ c.loop-node-test.true c.node-item.is c.names_descriptor.ensures c.if-names_descriptor.false c.loop-node.invariant

pub names_descriptors-returns : goal.names_descriptors-returns
names_descriptors-returns t c = last_unnamed _ c.args.nodes.now c.loop-node.node-index c.loop-node-test.false c.loop-node.invariant

pub names_descriptors-returns-then-names_descriptor : goal.names_descriptors-returns-then-names_descriptor
names_descriptors-returns-then-names_descriptor t c = named_here c.args.nodes.now c.loop-node.node-index c.node-item.result c.names_descriptor.result _ c.loop-node-test.true c.node-item.is c.names_descriptor.ensures c.if-names_descriptor.true c.loop-node.invariant

pub names_within-returns-then-is_empty : goal.names_within-returns-then-is_empty
names_within-returns-then-is_empty t c =
    let none : length c.args.body.now ≡ 0 = grind (arith, c.is_empty.ensures, c.if-is_empty.true) in sym (none_named c.args.body.now none)
