use Rattle.std.proofs.Common.{◌≡◌, ◌<◌, ◌++◌, [], length, get_or}
use Rattle.std.specs.Prelude.{take}
use Rattle.name_spelling.proofs.form.name_in.Given as goal

abbrev pub invariant-loop-left : goal.invariant-loop-left
invariant-loop-left l = record {
  inside : l.around < length l.paths;
  same : l.segs.items ++ take l.left (get_or l.paths l.around []) ≡ take l.form.count (get_or l.paths l.number []);
}

abbrev pub decreases-loop-left : goal.decreases-loop-left
decreases-loop-left l = l.left
