use Rattle.std.proofs.Common.{◌≡◌, ◌<◌, ◌≤◌, ◌+◌, [], length, get_or}
use Rattle.name_spelling.proofs.form.depth.Given as goal

abbrev pub invariant-loop-below : goal.invariant-loop-below
invariant-loop-below l = record {
  inside : l.around < length l.paths;
  counted : l.segments + length (get_or l.paths l.around []) ≡ length (get_or l.paths l.number []);
  few : l.segments + l.around ≤ l.number;
}

abbrev pub decreases-loop-below : goal.decreases-loop-below
decreases-loop-below l = l.around
