use Rattle.std.proofs.Common.{[], take, sym, ap, ◌∙◌, subst}
use Rattle.asl_meaning.specs.Declarations.{is_named}
use Rattle.acpi_names.specs.Shown.{all_shown}
use Rattle.name_entries.specs.Uses.{Denotes, uses_after, denoted_at}
use Rattle.name_entries.proofs.Noting.{uses_next, uses_whole}
use Rattle.name_entries.proofs.uses.uses_of.Goals as goal

pub loop-mention-preserved : goal.loop-mention-preserved
loop-mention-preserved c d agrees =
    let paths = c.args.index.now.paths in
    let mentions = c.args.mentions.now in
    subst (Denotes paths (is_named d) c.note.new.uses.items) (sym (uses_next paths mentions c.loop-mention.mention-index c.mention-item.result c.loop-mention-test.true c.mention-item.is))
    (c.in_ok-note.ensures d (uses_after (take c.loop-mention.mention-index (all_shown paths mentions)) []) agrees (c.loop-mention.invariant d agrees))

pub returns : goal.returns
returns c d agrees node =
    c.loop-mention.invariant d agrees node
    ∙ ap (λ uses. denoted_at (is_named d) uses node) (uses_whole c.args.index.now.paths c.args.mentions.now c.loop-mention.mention-index c.loop-mention-test.false)
