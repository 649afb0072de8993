use Rattle.asl_shape.proofs.Descriptors.{next_fills, last_fill, next_names, last_name}
use Rattle.asl_shape.proofs.resources.add_fills.Goals as goal

pub loop-node-preserved : goal.loop-node-preserved
loop-node-preserved c = (
  next_fills c.loop-node.fill.bytes.items c.add_fill.new.fill.bytes.items _ c.args.nodes.now c.loop-node.node-index c.node-item.result c.loop-node-test.true c.node-item.is c.in_ok-add_fill.ensures.bytes c.loop-node.invariant.0,
  next_names c.loop-node.fill.named.items c.add_fill.new.fill.named.items _ c.loop-node.fill.bytes.items c.add_fill.new.fill.bytes.items c.args.nodes.now c.loop-node.node-index c.node-item.result c.loop-node-test.true c.node-item.is c.in_ok-add_fill.ensures.bytes c.in_ok-add_fill.ensures.names c.loop-node.invariant.1,
)

pub returns-clause-bytes : goal.returns-clause-bytes
returns-clause-bytes c = last_fill c.loop-node.fill.bytes.items _ c.args.nodes.now c.loop-node.node-index c.loop-node-test.false c.loop-node.invariant.0

pub returns-clause-names : goal.returns-clause-names
returns-clause-names c = last_name c.loop-node.fill.named.items _ _ c.args.nodes.now c.loop-node.node-index c.loop-node-test.false c.loop-node.invariant.1
