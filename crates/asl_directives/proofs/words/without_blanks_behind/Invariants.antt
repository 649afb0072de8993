use Rattle.std.proofs.Common.{◌≡◌, length}
use Rattle.asl_directives.specs.Words as spec
use Rattle.asl_directives.proofs.words.without_blanks_behind.Given as goal

abbrev pub invariant-loop-rest : goal.invariant-loop-rest
invariant-loop-rest l = spec.without_blanks_behind l.rest ≡ spec.without_blanks_behind l.fn.text

abbrev pub decreases-loop-rest : goal.decreases-loop-rest
decreases-loop-rest l = length l.rest
