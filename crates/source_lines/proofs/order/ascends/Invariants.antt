use Rattle.std.proofs.Common.{ℕ, ◌<◌, ◌-◌, length, slice_index}
use Rattle.source_lines.specs.Order.{ranks}
use Rattle.source_lines.proofs.order.ascends.Given as goal

abbrev pub invariant-loop-count : goal.invariant-loop-count
invariant-loop-count l = (0 < l.count) × ((i j : ℕ) → i < j → j < l.count → slice_index (ranks l.lines) i < slice_index (ranks l.lines) j)

abbrev pub decreases-loop-count : goal.decreases-loop-count
decreases-loop-count l = length l.lines - l.count
