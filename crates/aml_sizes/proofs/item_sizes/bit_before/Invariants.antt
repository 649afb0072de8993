use Rattle.std.proofs.Common.{◌≡◌, ◌≤◌, ◌+◌, ◌*◌, ◌^◌, take}
use Rattle.aml_sizes.specs.Items.{behind_items}
use Rattle.aml_sizes.proofs.item_sizes.bit_before.Given as goal

-- what is counted, and what is left to count
abbrev pub invariant-loop-left : goal.invariant-loop-left
invariant-loop-left l = record {
  within : l.left ≤ l.index;
  bound : l.bits + 2 ^ 28 * l.left ≤ 2 ^ 28 * l.index;
  bits : behind_items 0 (take l.left l.nodes) + l.bits ≡ behind_items 0 (take l.index l.nodes);
}

abbrev pub decreases-loop-left : goal.decreases-loop-left
decreases-loop-left l = l.left
