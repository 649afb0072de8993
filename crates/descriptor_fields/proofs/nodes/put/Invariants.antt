use Rattle.std.proofs.Common.{◌≡◌, ◌+◌, ◌-◌, ℕ, None, length, get_or}
use Rattle.descriptor_fields.proofs.nodes.put.Given as goal

abbrev pub invariant-loop-table : goal.invariant-loop-table
invariant-loop-table g l = (n : ℕ) → get_or l.table.items n None ≡ get_or l.initial.table.items n None

abbrev pub decreases-loop-table : goal.decreases-loop-table
decreases-loop-table g l = l.number + 1 - length l.table.items
