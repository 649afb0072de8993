use Rattle.std.proofs.Common.{◌≡◌, ◌++◌, drop, map}
use Rattle.asl_meaning.specs.Declarations.{is_named}
use Rattle.acpi_names.specs.Shown.{all_shown}
use Rattle.name_notes.specs.Notes.{method_of, is_among, is_used_in, all_notes, mentioned_notes}
use Rattle.name_notes.proofs.Marking.{at_number}
use Rattle.name_notes.proofs.check.notes_of.Given as goal

abbrev pub ghost-marks_of : goal.ghost-marks_of
ghost-marks_of g a = g.whole

abbrev pub ghost-note : goal.ghost-note
ghost-note g a = g.whole

abbrev pub invariant-loop-mention : goal.invariant-loop-mention
invariant-loop-mention g l =
    let mentions = all_shown l.index.paths l.mentions in
    let has = is_named g.whole.all in
    let also = map (at_number l.index.paths) l.also in
    l.out ++ all_notes (is_among method_of mentions) (is_used_in has also mentions) (drop l.mention-index mentions) ≡ mentioned_notes has also mentions
