use Rattle.std.proofs.Common.{◌≡◌, ◌++◌, length}
use Rattle.std.specs.List.{flat_map}
use Rattle.asl_fragments.specs.Fragments.{blanked, fragments}
use Rattle.asl_fragments.proofs.comments.without_comments.Given as goal

abbrev pub invariant-loop-rest : goal.invariant-loop-rest
invariant-loop-rest l = l.out.items ++ flat_map blanked (fragments l.inside l.rest) ≡ flat_map blanked (fragments l.in_comment l.text)

abbrev pub decreases-loop-rest : goal.decreases-loop-rest
decreases-loop-rest l = length l.rest
