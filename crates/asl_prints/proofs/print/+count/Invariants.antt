use Rattle.std.proofs.Common.{length}
use Rattle.asl_prints.proofs.print.+count.Given as goal

abbrev pub decreases-count : goal.decreases-count
decreases-count l = length l.texts.now
