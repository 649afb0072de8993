use Rattle.std.proofs.Common.{[], get_or, drop, ◌+◌, refl, sym, ap, ◌∙◌, arith}
use Rattle.acpi_names.specs.Paths.{number_in}
use Rattle.acpi_names.proofs.Numbers.{number_at}
use Rattle.acpi_names.proofs.Closed.{none_below, own_number, below_next, below_end}
use Rattle.acpi_names.proofs.lookup.find.Goals as goal

pub returns-in-None : goal.returns-in-None
returns-in-None c =
    sym (ap (number_in c.args.paths.now) (sym c.loop-seg.invariant.same ∙ sym (below_next (get_or c.args.paths.now c.loop-seg.at []) _ c.args.segs.now c.loop-seg.seg-index _ c.loop-seg-test.true refl))
    ∙ none_below c.args.paths.now _ (drop (c.loop-seg.seg-index + 1) c.args.segs.now) c.len-len.ensures.closed (sym c.in-None.ensures.number))

pub loop-seg-preserved : goal.loop-seg-preserved
loop-seg-preserved c = record {
  inside = c.in-Some.ensures.within;
  same = below_next (get_or c.args.paths.now c.loop-seg.at []) (get_or c.args.paths.now c.in-Some.number []) c.args.segs.now c.loop-seg.seg-index _ c.loop-seg-test.true (number_at c.args.paths.now _ c.in-Some.number (sym c.in-Some.ensures.number)) ∙ c.loop-seg.invariant.same;
}

pub returns : goal.returns
returns c =
    let end = below_end (get_or c.args.paths.now c.loop-seg.at []) c.args.segs.now c.loop-seg.seg-index (omega (arith, c.loop-seg-test.false)) in
    sym (own_number c.args.paths.now c.loop-seg.at c.len-len.ensures.distinct c.loop-seg.invariant.inside)
    ∙ ap (number_in c.args.paths.now) (sym end ∙ c.loop-seg.invariant.same)
