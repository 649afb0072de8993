use Rattle.std.proofs.Common.{◌≡◌, ◌<◌, [], length, get_or, drop}
use Rattle.acpi_names.specs.Paths.{Extends}
use Rattle.asl_tree.specs.Names.{below}
use Rattle.acpi_names.proofs.lookup.intern.Given as goal

abbrev pub invariant-loop-seg : goal.invariant-loop-seg
invariant-loop-seg l = record {
  inside : l.at < length l.paths;
  same : below (get_or l.paths l.at []) (drop l.seg-index l.segs) ≡ below (get_or l.initial.paths l.scope []) l.segs;
  extends : Extends l.initial.paths l.paths;
}
