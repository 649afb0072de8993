use Rattle.std.proofs.Common.{◌≡◌, ℕ, false, None, length, get_or, is_some, if◌then◌else◌, ◌<◌, ◌≤◌}
use Rattle.descriptor_checks.proofs.forget.forget_descriptors.Given as goal

abbrev pub invariant-loop-number : goal.invariant-loop-number
invariant-loop-number l = record {
  paths : l.index.paths ≡ l.fn.index.paths;
  size : length l.index.named.items ≡ length l.fn.index.named.items;
  end : l.number-end ≡ length l.fn.index.named.items;
  cleared : (n : ℕ) → n < l.number → get_or l.index.named.items n false ≡ (if is_some (get_or l.table n None) then false else get_or l.fn.index.named.items n false);
  others : (n : ℕ) → l.number ≤ n → get_or l.index.named.items n false ≡ get_or l.fn.index.named.items n false;
}
