use Rattle.std.proofs.Common.{◌≡◌, length}
use Rattle.asl_preprocess.specs.Search as spec
use Rattle.asl_preprocess.proofs.search.directory_of.Given as goal

abbrev pub invariant-loop-rest : goal.invariant-loop-rest
invariant-loop-rest l = spec.directory_of l.rest ≡ spec.directory_of l.fn.name

abbrev pub decreases-loop-rest : goal.decreases-loop-rest
decreases-loop-rest l = length l.rest
