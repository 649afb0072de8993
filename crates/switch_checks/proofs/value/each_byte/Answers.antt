use Rattle.std.proofs.Common.{◌++◌, ◌∷◌, [], ap, ◌∙◌}
use Rattle.switch_checks.proofs.Bytes.{next_byte, all_bytes}
use Rattle.switch_checks.proofs.value.each_byte.Goals as goal

pub loop-node-preserved : goal.loop-node-preserved
loop-node-preserved c =
    next_byte c.args.nodes.now c.loop-node.node-index c.node-item.result c.loop-node.bytes.items c.push.new.self.items c.loop-node-test.true c.node-item.is c.loop-node.invariant
    (c.in_ok-push.ensures.items ∙ ap (λ b. c.loop-node.bytes.items ++ b ∷ []) c.byte_of.ensures)

pub returns : goal.returns
returns c = all_bytes c.args.nodes.now c.loop-node.node-index c.loop-node.bytes.items c.loop-node-test.false c.loop-node.invariant
