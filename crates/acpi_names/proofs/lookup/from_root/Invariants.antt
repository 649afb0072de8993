use Rattle.std.proofs.Common.{◌≡◌, ◌<◌, ◌++◌, [], length, get_or}
use Rattle.acpi_names.proofs.lookup.from_root.Given as goal

abbrev pub invariant-loop-below : goal.invariant-loop-below
invariant-loop-below l = record {
  inside : l.around < length l.paths;
  same : l.segs.items ++ get_or l.paths l.around [] ≡ get_or l.paths l.number [];
}

abbrev pub decreases-loop-below : goal.decreases-loop-below
decreases-loop-below l = l.around
