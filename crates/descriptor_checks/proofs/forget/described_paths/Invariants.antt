use Rattle.std.proofs.Common.{◌≡◌, ℕ, false, None, length, get_or, is_some, ◌<◌}
use Rattle.descriptor_checks.proofs.forget.described_paths.Given as goal

abbrev pub invariant-loop-number : goal.invariant-loop-number
invariant-loop-number l = record {
  size : length l.flags.items ≡ l.number;
  noted : (n : ℕ) → n < l.number → get_or l.flags.items n false ≡ is_some (get_or l.table n None);
}
