use Rattle.std.proofs.Common.{take, sym, subst}
use Rattle.acpi_names.specs.Shown.{all_shown}
use Rattle.name_kinds.proofs.Places.{shown_there}
use Rattle.name_entries.specs.Placed.{ArePlaced, no_places, placed_all}
use Rattle.name_entries.proofs.Placing.{placed_next, placed_whole}
use Rattle.name_entries.proofs.places.places_of.Goals as goal

pub note-requires : goal.note-requires
note-requires g c =
    (c.requires.0, (shown_there g.whole c.args.index.now.paths c.args.mentions.now c.loop-mention.mention-index c.mention-item.result c.requires.1 c.loop-mention-test.true c.mention-item.is, c.loop-mention.invariant.sized))

pub loop-mention-preserved : goal.loop-mention-preserved
loop-mention-preserved g c =
    let paths = c.args.index.now.paths in
    let mentions = c.args.mentions.now in
    let i = c.loop-mention.mention-index in
    record {
      sized = c.note.ensures.sized;
      placed = subst (ArePlaced paths c.note.new.tables) (sym (placed_next paths mentions i c.mention-item.result c.loop-mention-test.true c.mention-item.is))
          (c.note.ensures.placed (placed_all (take i (all_shown paths mentions)) no_places) c.loop-mention.invariant.placed);
    }

pub returns-clause-placed : goal.returns-clause-placed
returns-clause-placed g c = subst (ArePlaced c.args.index.now.paths c.loop-mention.tables) (placed_whole c.args.index.now.paths c.args.mentions.now c.loop-mention.mention-index c.loop-mention-test.false) c.loop-mention.invariant.placed
