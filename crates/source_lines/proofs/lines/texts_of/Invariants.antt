use Rattle.std.proofs.Common.{◌≤◌, length, drop}
use Rattle.source_lines.specs.Tells.{Tells}
use Rattle.source_lines.proofs.lines.texts_of.Given as goal

abbrev pub invariant-loop-left : goal.invariant-loop-left
invariant-loop-left l = (l.left ≤ length l.lines) × Tells l.texts (drop l.left l.lines)

abbrev pub decreases-loop-left : goal.decreases-loop-left
decreases-loop-left l = l.left
