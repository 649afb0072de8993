use Rattle.std.proofs.Common.{length}
use Rattle.asl_fragments.specs.Fragments.{fragments, identifiers}
use Rattle.asl_macros.specs.Table.{AreFree, text_at}
use Rattle.asl_macros.proofs.names.is_free.Given as goal

abbrev pub invariant-loop-name : goal.invariant-loop-name
invariant-loop-name l = AreFree (text_at l.macros) (identifiers (fragments l.inside l.rest)) → AreFree (text_at l.macros) (identifiers (fragments l.in_comment l.text))

abbrev pub decreases-loop-name : goal.decreases-loop-name
decreases-loop-name l = length l.rest
