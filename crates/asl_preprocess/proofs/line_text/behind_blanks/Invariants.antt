use Rattle.std.proofs.Common.{◌≡◌, length}
use Rattle.asl_directives.specs.Words.{past_blanks}
use Rattle.asl_preprocess.proofs.line_text.behind_blanks.Given as goal

abbrev pub invariant-loop-rest : goal.invariant-loop-rest
invariant-loop-rest l = past_blanks l.rest ≡ past_blanks l.text

abbrev pub decreases-loop-rest : goal.decreases-loop-rest
decreases-loop-rest l = length l.rest
