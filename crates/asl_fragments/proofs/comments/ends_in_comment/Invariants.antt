use Rattle.std.proofs.Common.{◌≡◌, length}
use Rattle.asl_fragments.specs.Fragments.{open_behind, fragments}
use Rattle.asl_fragments.proofs.comments.ends_in_comment.Given as goal

abbrev pub invariant-loop-left_open : goal.invariant-loop-left_open
invariant-loop-left_open l = open_behind l.left_open (fragments l.inside l.rest) ≡ open_behind l.in_comment (fragments l.in_comment l.text)

abbrev pub decreases-loop-left_open : goal.decreases-loop-left_open
decreases-loop-left_open l = length l.rest
