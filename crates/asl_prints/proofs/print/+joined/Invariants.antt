use Rattle.std.proofs.Common.{length}
use Rattle.asl_prints.proofs.print.+joined.Given as goal

abbrev pub decreases-joined : goal.decreases-joined
decreases-joined l = length l.texts.now
