use Rattle.std.proofs.Common.{take, sym, subst}
use Rattle.acpi_names.specs.Shown.{all_shown}
use Rattle.asl_meaning.specs.Declarations.{is_named}
use Rattle.name_kinds.proofs.Places.{next_taken}
use Rattle.descriptor_checks.specs.Fields.{AreSorted}
use Rattle.descriptor_checks.proofs.Following.{taken_all}
use Rattle.descriptor_checks.proofs.told.sorted_mentions.Goals as goal

pub loop-mention-preserved : goal.loop-mention-preserved
loop-mention-preserved c d look agrees tabled =
    let paths = c.args.index.now.paths in
    let mentions = c.args.mentions.now in
    let i = c.loop-mention.mention-index in
    subst (AreSorted paths (is_named d) look c.sort.new.sorted) (sym (next_taken paths mentions i c.mention-item.result c.loop-mention-test.true c.mention-item.is))
    (c.in_ok-sort.ensures paths (is_named d) look (take i (all_shown paths mentions)) (c.in_ok-sense.ensures d look agrees tabled) (c.loop-mention.invariant d look agrees tabled))

pub returns : goal.returns
returns c d look agrees tabled = subst (AreSorted c.args.index.now.paths (is_named d) look c.loop-mention.sorted) (taken_all c.args.index.now.paths c.args.mentions.now c.loop-mention.mention-index c.loop-mention-test.false) (c.loop-mention.invariant d look agrees tabled)
