use Rattle.std.proofs.Common.{◌≡◌, ◌<◌, [], length, get_or, drop}
use Rattle.asl_tree.specs.Names.{below}
use Rattle.acpi_names.proofs.lookup.find.Given as goal

abbrev pub invariant-loop-seg : goal.invariant-loop-seg
invariant-loop-seg l = record {
  inside : l.at < length l.paths;
  same : below (get_or l.paths l.at []) (drop l.seg-index l.segs) ≡ below (get_or l.paths l.scope []) l.segs;
}
