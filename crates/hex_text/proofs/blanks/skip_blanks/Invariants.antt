use Rattle.std.proofs.Common.{◌≡◌, length}
use Rattle.hex_text.specs.Blanks.{drop_blanks}
use Rattle.hex_text.proofs.blanks.skip_blanks.Given as goal

abbrev pub invariant-loop-rest : goal.invariant-loop-rest
invariant-loop-rest l = drop_blanks l.rest ≡ drop_blanks l.text

abbrev pub decreases-loop-rest : goal.decreases-loop-rest
decreases-loop-rest l = length l.rest
