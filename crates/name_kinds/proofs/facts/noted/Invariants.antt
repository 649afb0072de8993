use Rattle.std.proofs.Common.{take}
use Rattle.asl_meaning.specs.Declarations.{is_named, called, nothing_declared}
use Rattle.acpi_names.specs.Mentions.{after_all, calls_in}
use Rattle.acpi_names.specs.Shown.{all_shown}
use Rattle.name_kinds.specs.Tables.{AreSized, TablesSay}
use Rattle.name_kinds.proofs.facts.noted.Given as goal

abbrev pub ghost-note : goal.ghost-note
ghost-note g a = g.whole

abbrev pub invariant-loop-mention : goal.invariant-loop-mention
invariant-loop-mention g l = record {
  sized : AreSized l.index.paths l.tables;
  notes : TablesSay l.index.paths (is_named g.whole.all) l.tables (called (calls_in (is_named g.whole.all) (take l.mention-index (all_shown l.index.paths l.mentions)))) (after_all (take l.mention-index (all_shown l.index.paths l.mentions)) nothing_declared);
}
