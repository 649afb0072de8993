use Rattle.std.proofs.Common.{◌≡◌, ◌<◌, ◌≤◌, ℕ, [], length, get_or}
use Rattle.name_kinds.proofs.facts.depths.Given as goal

abbrev pub invariant-loop-number : goal.invariant-loop-number
invariant-loop-number l = record {
  size : length l.depths.items ≡ l.number;
  before : (n : ℕ) → n < l.number → get_or l.depths.items n 0 ≡ length (get_or l.paths n []);
  low : (n : ℕ) → n < l.number → get_or l.depths.items n 0 ≤ n;
}
