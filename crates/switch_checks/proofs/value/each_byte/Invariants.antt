use Rattle.switch_checks.proofs.Bytes.{BytesLeft}
use Rattle.switch_checks.proofs.value.each_byte.Given as goal

abbrev pub invariant-loop-node : goal.invariant-loop-node
invariant-loop-node l = BytesLeft l.nodes l.node-index l.bytes.items
