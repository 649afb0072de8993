use Rattle.std.proofs.Common.{◌+◌, ◌*◌}
use Rattle.asl_prints.specs.Nodes.{nodes_size, term_size}
use Rattle.asl_formats.proofs.PlainTerms.{Found}
use Rattle.asl_formats.proofs.plain.+plain.Given as goal

abbrev pub invariant-are_plain-loop-node : goal.invariant-are_plain-loop-node
invariant-are_plain-loop-node l = Found l.nodes l.node-index

abbrev pub decreases-are_plain : goal.decreases-are_plain
decreases-are_plain l = 4 * (nodes_size l.nodes.now) + 1

abbrev pub decreases-is_plain : goal.decreases-is_plain
decreases-is_plain l = 4 * (term_size l.term.now) + 3

abbrev pub decreases-is_plain_form : goal.decreases-is_plain_form
decreases-is_plain_form l = 4 * (nodes_size l.args.now + nodes_size l.body.now) + 2
