use Rattle.std.proofs.Common.{◌≤◌, length, take}
use Rattle.aml_sizes.specs.PackageLengths.{items_lengths}
use Rattle.aml_sizes.proofs.NotedLengths.{Rest}
use Rattle.aml_sizes.proofs.item_sizes.note_items.Given as goal

-- what is left to note, and what is noted
abbrev pub invariant-loop-left : goal.invariant-loop-left
invariant-loop-left l = record {
  within : l.left ≤ length l.nodes;
  lengths : Rest (items_lengths (take l.left l.nodes)) l.notes (items_lengths l.nodes) l.initial.notes;
}

abbrev pub decreases-loop-left : goal.decreases-loop-left
decreases-loop-left l = l.left
