use Rattle.std.proofs.Common.{◌≡◌, ◌<◌, [], length, get_or}
use Rattle.std.specs.Prelude.{nat_le}
use Rattle.descriptor_checks.proofs.fields.has_scopes.Given as goal

abbrev pub invariant-loop-left : goal.invariant-loop-left
invariant-loop-left l = record {
  inside : l.around < length l.paths;
  same : nat_le l.left (length (get_or l.paths l.around [])) ≡ nat_le l.up (length (get_or l.paths l.scope []));
}

abbrev pub decreases-loop-left : goal.decreases-loop-left
decreases-loop-left l = l.left
