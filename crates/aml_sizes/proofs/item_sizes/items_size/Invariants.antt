use Rattle.std.proofs.Common.{◌≡◌, ◌≤◌, ◌+◌, ◌*◌, ◌^◌, length, drop}
use Rattle.aml_sizes.specs.Capped.{capped}
use Rattle.aml_sizes.specs.Items.{written_items}
use Rattle.aml_sizes.proofs.item_sizes.items_size.Given as goal

-- what is counted, and what is left to count; each item adds less than 2^28 bits, or stands at less than 2^67
abbrev pub invariant-loop-node : goal.invariant-loop-node
invariant-loop-node l = record {
  bound : l.bit ≤ 2 ^ 67 + 2 ^ 28 * l.node-index;
  few : l.size ≤ 18446744073709551615;
  size : capped (l.size + length (written_items l.bit (drop l.node-index l.nodes))) ≡ capped (length (written_items 0 l.nodes));
}
