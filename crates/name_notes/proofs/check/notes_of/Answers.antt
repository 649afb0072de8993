use Rattle.std.proofs.Common.{map}
use Rattle.asl_meaning.specs.Declarations.{is_named}
use Rattle.acpi_names.specs.Shown.{all_shown}
use Rattle.name_kinds.proofs.Places.{shown_there}
use Rattle.name_notes.specs.Notes.{method_of, used_by, is_among, is_used_in, mentioned_notes}
use Rattle.name_notes.proofs.Marking.{at_number}
use Rattle.name_notes.proofs.Telling.{notes_next, notes_end}
use Rattle.name_notes.proofs.check.notes_of.Goals as goal

pub mark_each-requires : goal.mark_each-requires
mark_each-requires g c = c.in_ok-marks.ensures.sized.used

pub note-requires : goal.note-requires
note-requires g c =
    (c.requires.1.0, (shown_there g.whole c.args.index.now.paths c.args.mentions.now c.loop-mention.mention-index c.mention-item.result c.requires.1.1 c.loop-mention-test.true c.mention-item.is, record { methods = c.in_ok-marks.ensures.sized.methods; used = c.mark_each.ensures.sized }))

pub loop-mention-preserved : goal.loop-mention-preserved
loop-mention-preserved g c =
    let paths = c.args.index.now.paths in
    let has = is_named g.whole.all in
    let mentions = all_shown paths c.args.mentions.now in
    let also = map (at_number paths) c.args.also.now in
    let methods = is_among method_of mentions in
    let used = is_used_in has also mentions in
    let marked = c.in_ok-marks.ensures.marked in
    notes_next paths methods used c.args.mentions.now c.loop-mention.mention-index c.mention-item.result c.loop-mention.out c.note.new.out (mentioned_notes has also mentions) c.loop-mention-test.true c.mention-item.is
    (c.in_ok-note.ensures methods used marked.methods (c.mark_each.ensures.marked (is_among (used_by has) mentions) marked.used)) c.loop-mention.invariant

pub returns : goal.returns
returns g c =
    let paths = c.args.index.now.paths in
    let has = is_named g.whole.all in
    let mentions = all_shown paths c.args.mentions.now in
    let also = map (at_number paths) c.args.also.now in
    notes_end paths (is_among method_of mentions) (is_used_in has also mentions) c.args.mentions.now c.loop-mention.mention-index c.loop-mention.out (mentioned_notes has also mentions) c.loop-mention-test.false c.loop-mention.invariant
