use Rattle.std.proofs.Common.{◌≡◌, ◌≤◌, length}
use Rattle.asl_fragments.specs.Fragments.{fragments, identifiers}
use Rattle.asl_fragments.proofs.names.first_identifier.Given as goal

abbrev pub invariant-loop-rest : goal.invariant-loop-rest
invariant-loop-rest l = record { same : identifiers (fragments l.inside l.rest) ≡ identifiers (fragments l.in_comment l.text); within : length l.rest ≤ length l.text }

abbrev pub decreases-loop-rest : goal.decreases-loop-rest
decreases-loop-rest l = length l.rest
