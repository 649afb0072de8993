use Rattle.std.proofs.Common.{length, sym, subst}
use Rattle.asl_tables.specs.Compiled.{AreWithin}
use Rattle.iasl_tool.proofs.Sorting.{sorted_within, counted_within, shown_within}
use Rattle.iasl_tool.proofs.due.console_text.Goals as goal

pub render-requires : goal.render-requires
render-requires c =
    let files = length c.args.files.now in
    let counted = counted_within files c.args.ignored.now c.args.messages c.requires in
    let sorted = sorted_within files _ c.in_ok-sorted.sorted (c.in_ok-sorted.ensures.same) (subst (AreWithin files) (sym c.counted.ensures) counted) in
    subst (AreWithin files) (sym c.shown-told.ensures) (shown_within files c.args.switches c.in_ok-sorted.sorted sorted)
