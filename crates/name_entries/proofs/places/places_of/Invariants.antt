use Rattle.std.proofs.Common.{take}
use Rattle.acpi_names.specs.Shown.{all_shown}
use Rattle.name_entries.specs.Placed.{AreAll, ArePlaced, no_places, placed_all}
use Rattle.name_entries.proofs.places.places_of.Given as goal

abbrev pub ghost-note : goal.ghost-note
ghost-note g a = g.whole

abbrev pub invariant-loop-mention : goal.invariant-loop-mention
invariant-loop-mention g l = record {
  sized : AreAll l.index.paths l.tables;
  placed : ArePlaced l.index.paths l.tables (placed_all (take l.mention-index (all_shown l.index.paths l.mentions)) no_places);
}
