use Rattle.std.proofs.Common.{◌≡◌, ◌<◌, [], length, get_or, drop}
use Rattle.acpi_names.proofs.lookup.outer.Given as goal

abbrev pub invariant-loop-left : goal.invariant-loop-left
invariant-loop-left l = record {
  inside : l.around < length l.paths;
  same : drop l.left (get_or l.paths l.around []) ≡ drop l.up (get_or l.paths l.scope []);
}

abbrev pub decreases-loop-left : goal.decreases-loop-left
decreases-loop-left l = l.left
