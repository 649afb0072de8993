use Rattle.std.proofs.Common.{take}
use Rattle.asl_meaning.specs.Declarations.{is_named}
use Rattle.acpi_names.specs.Shown.{all_shown}
use Rattle.name_notes.specs.Marks.{AreSized, AreMarked}
use Rattle.name_notes.proofs.marks.marks_of.Given as goal

abbrev pub ghost-note : goal.ghost-note
ghost-note g a = g.whole

abbrev pub invariant-loop-mention : goal.invariant-loop-mention
invariant-loop-mention g l = record {
  sized : AreSized l.index.paths l.marks;
  marked : AreMarked l.index.paths (is_named g.whole.all) l.marks (take l.mention-index (all_shown l.index.paths l.mentions));
}
