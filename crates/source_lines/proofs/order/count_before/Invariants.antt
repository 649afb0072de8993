use Rattle.std.proofs.Common.{ℕ, ◌<◌, ◌≤◌, ◌-◌, length, slice_index}
use Rattle.source_lines.specs.Order.{ranks}
use Rattle.source_lines.proofs.order.count_before.Given as goal

abbrev pub invariant-loop-low : goal.invariant-loop-low
invariant-loop-low l = record {
  within : l.high ≤ length l.lines;
  apart : l.low ≤ l.high;
  before : (k : ℕ) → k < l.low → slice_index (ranks l.lines) k < l.sought;
  behind : (k : ℕ) → l.high ≤ k → k < length l.lines → l.sought ≤ slice_index (ranks l.lines) k;
}

abbrev pub decreases-loop-low : goal.decreases-loop-low
decreases-loop-low l = l.high - l.low
