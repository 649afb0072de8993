use Rattle.std.proofs.Common.{refl}
use Rattle.descriptor_fields.specs.Declaring.{names_inside, names_among}
use Rattle.descriptor_fields.proofs.Walks.{next_in, last_in}
use Rattle.descriptor_fields.proofs.declare.+names.Goals as goal

pub add_among-loop-node-preserved : goal.add_among-loop-node-preserved
add_among-loop-node-preserved t c =
    next_in names_among names_among names_inside (λ place p ps. refl) c.loop-node.names.items c.add_inside.new.names.items _ c.args.nodes.now c.loop-node.node-index c.node-item.result c.loop-node-test.true c.node-item.is c.in_ok-add_inside.ensures c.loop-node.invariant

pub add_among-returns : goal.add_among-returns
add_among-returns t c = last_in names_among c.loop-node.names.items _ c.args.nodes.now c.loop-node.node-index refl c.loop-node-test.false c.loop-node.invariant
