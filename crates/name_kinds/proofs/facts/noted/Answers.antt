use Rattle.name_kinds.proofs.Places.{shown_there, notes_next, notes_all}
use Rattle.name_kinds.proofs.facts.noted.Goals as goal

pub loop-mention-init : goal.loop-mention-init
loop-mention-init g c = record { sized = c.in_ok-tables.ensures.sized; notes = c.in_ok-tables.ensures.notes _ }

pub note-requires : goal.note-requires
note-requires g c =
    (c.requires.0, (c.requires.1.0, (shown_there g.whole c.args.index.now.paths c.args.mentions.now c.loop-mention.mention-index c.mention-item.result c.requires.1.1 c.loop-mention-test.true c.mention-item.is, c.loop-mention.invariant.sized)))

pub loop-mention-preserved : goal.loop-mention-preserved
loop-mention-preserved g c = record {
  sized = c.note.ensures.sized;
  notes = notes_next c.args.index.now.paths g.whole c.loop-mention.tables c.note.new.tables c.args.mentions.now c.loop-mention.mention-index c.mention-item.result c.loop-mention-test.true c.mention-item.is c.note.ensures.noted c.loop-mention.invariant.notes;
}

pub returns-clause-notes : goal.returns-clause-notes
returns-clause-notes g c = notes_all c.args.index.now.paths g.whole c.loop-mention.tables c.args.mentions.now c.loop-mention.mention-index c.loop-mention-test.false c.requires.1.1 c.loop-mention.invariant.notes
