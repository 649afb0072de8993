use Rattle.std.proofs.Common.{[], get_or, ◌∙◌}
use Rattle.acpi_names.proofs.Closed.{inside_of, below_next, extends_then}
use Rattle.acpi_names.proofs.lookup.intern.Goals as goal

pub loop-seg-preserved : goal.loop-seg-preserved
loop-seg-preserved c = record {
  inside = inside_of c.add.new.self c.in_ok-at.at _ _ c.in_ok-at.ensures.number;
  same = below_next (get_or c.loop-seg.paths c.loop-seg.at []) (get_or c.add.new.self c.in_ok-at.at []) c.args.segs.now c.loop-seg.seg-index _ c.loop-seg-test.true c.in_ok-at.ensures.number ∙ c.loop-seg.invariant.same;
  extends = extends_then c.args.paths.now c.loop-seg.paths c.add.new.self c.loop-seg.invariant.extends c.in_ok-at.ensures.others;
}
