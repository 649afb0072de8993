use Rattle.std.proofs.Common.{◌≡◌, ◌<◌, ℕ, None, length, get_or}
use Rattle.name_entries.specs.Entries.{entry_said}
use Rattle.name_entries.proofs.entries.entry_table.Given as goal

abbrev pub invariant-loop-number : goal.invariant-loop-number
invariant-loop-number l = record {
  size : length l.entries.items ≡ l.number;
  each : (n : ℕ) → n < l.number → get_or l.entries.items n None ≡ entry_said l.paths n (get_or l.said n None);
}
