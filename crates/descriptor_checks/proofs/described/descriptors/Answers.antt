use Rattle.std.proofs.Common.{take, refl, sym, subst}
use Rattle.acpi_state.specs.Objects.{lookup}
use Rattle.acpi_names.specs.Shown.{all_shown}
use Rattle.acpi_names.specs.Tables.{Tabled}
use Rattle.name_kinds.proofs.Places.{shown_there}
use Rattle.descriptor_checks.specs.Resolved.{described, described_by}
use Rattle.descriptor_checks.proofs.Following.{next_of, none_taken, taken_all}
use Rattle.descriptor_checks.proofs.Placing.{none_noted}
use Rattle.descriptor_checks.proofs.described.descriptors.Goals as goal

pub loop-mention-init : goal.loop-mention-init
loop-mention-init g c said says =
    let paths = c.args.index.now.paths in
    subst (λ ms. Tabled paths c.new-table.result.items (lookup (described said ms))) (sym (none_taken (all_shown paths c.args.mentions.now))) (none_noted paths c.new-table.result.items c.new-table.ensures.items)

pub note-requires : goal.note-requires
note-requires g c =
    (c.requires.0, shown_there g.whole c.args.index.now.paths c.args.mentions.now c.loop-mention.mention-index c.mention-item.result c.requires.1 c.loop-mention-test.true c.mention-item.is)

pub loop-mention-preserved : goal.loop-mention-preserved
loop-mention-preserved g c said says =
    let paths = c.args.index.now.paths in
    let mentions = c.args.mentions.now in
    let i = c.loop-mention.mention-index in
    subst (λ ds. Tabled paths c.note.new.table.items (lookup ds)) (sym (next_of (described said) (described_by said) refl (λ m ms. refl) paths mentions i c.mention-item.result c.loop-mention-test.true c.mention-item.is))
    (c.in_ok-note.ensures said (described said (take i (all_shown paths mentions))) says (c.loop-mention.invariant said says))

pub returns : goal.returns
returns g c said says =
    subst (λ ms. Tabled c.args.index.now.paths c.loop-mention.table.items (lookup (described said ms))) (taken_all c.args.index.now.paths c.args.mentions.now c.loop-mention.mention-index c.loop-mention-test.false) (c.loop-mention.invariant said says)
