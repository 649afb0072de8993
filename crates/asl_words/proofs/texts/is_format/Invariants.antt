use Rattle.std.proofs.Common.{◌≡◌, length}
use Rattle.asl_tree.specs.Formats.{is_format}
use Rattle.asl_words.proofs.texts.is_format.Given as goal

abbrev pub invariant-loop-rest : goal.invariant-loop-rest
invariant-loop-rest l = is_format l.rest ≡ is_format l.fn.text

abbrev pub decreases-loop-rest : goal.decreases-loop-rest
decreases-loop-rest l = length l.rest
