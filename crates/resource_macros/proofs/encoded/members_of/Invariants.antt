use Rattle.std.proofs.Common.{◌≡◌, ◌++◌, drop}
use Rattle.resource_macros.specs.Arguments.{members_of}
use Rattle.resource_macros.proofs.encoded.members_of.Given as goal

abbrev pub invariant-loop-node : goal.invariant-loop-node
invariant-loop-node l = l.members.items ++ members_of l.body (drop l.node-index l.nodes) ≡ members_of l.body l.nodes
