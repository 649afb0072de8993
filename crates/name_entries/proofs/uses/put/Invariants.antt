use Rattle.std.proofs.Common.{◌≡◌, ◌+◌, ◌-◌, ℕ, None, length, get_or}
use Rattle.name_entries.proofs.uses.put.Given as goal

abbrev pub invariant-loop-uses : goal.invariant-loop-uses
invariant-loop-uses l = (n : ℕ) → get_or l.uses.items n None ≡ get_or l.initial.uses.items n None

abbrev pub decreases-loop-uses : goal.decreases-loop-uses
decreases-loop-uses l = l.number + 1 - length l.uses.items
