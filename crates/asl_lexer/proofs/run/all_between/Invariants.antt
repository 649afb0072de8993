use Rattle.std.proofs.Common.{◌≤◌, ◌-◌, length}
use Rattle.asl_lexer.specs.declared.mode.Mode.TheVariants as m
use Rattle.asl_lexer.specs.Runs.{Passes}
use Rattle.asl_lexer.proofs.run.all_between.Given as goal

abbrev pub invariant-loop-index : goal.invariant-loop-index
invariant-loop-index l = record {
  within : l.index ≤ length l.bytes;
  passes : Passes l.at l.bytes l.index m.Between l.initial.tokens m.Between l.tokens;
}

abbrev pub decreases-loop-index : goal.decreases-loop-index
decreases-loop-index l = length l.bytes - l.index
