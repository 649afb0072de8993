use Rattle.std.proofs.Common.{◌≡◌, ◌+◌, ◌-◌, ◌≤◌, drop, length}
use Rattle.std.specs.List.{prefix_len}
use Rattle.asl_lexer.specs.Runs.{is_whitespace}
use Rattle.asl_lexer.proofs.run.whitespace_width.Given as goal

abbrev pub invariant-loop-width : goal.invariant-loop-width
invariant-loop-width l = record {
  within : l.width ≤ length l.bytes;
  counted : prefix_len is_whitespace l.bytes ≡ l.width + prefix_len is_whitespace (drop l.width l.bytes);
}

abbrev pub decreases-loop-width : goal.decreases-loop-width
decreases-loop-width l = length l.bytes - l.width
