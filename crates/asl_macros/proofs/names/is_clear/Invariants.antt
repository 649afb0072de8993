use Rattle.std.proofs.Common.{length}
use Rattle.asl_macros.specs.Clear.{IsClear}
use Rattle.asl_macros.specs.Table.{text_at}
use Rattle.asl_macros.proofs.names.is_clear.Given as goal

abbrev pub invariant-loop-rest : goal.invariant-loop-rest
invariant-loop-rest l = IsClear (text_at l.macros) l.before l.rest → IsClear (text_at l.macros) 32 l.text

abbrev pub decreases-loop-rest : goal.decreases-loop-rest
decreases-loop-rest l = length l.rest
