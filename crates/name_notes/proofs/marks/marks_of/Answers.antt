use Rattle.asl_meaning.specs.Declarations.{is_named}
use Rattle.name_kinds.proofs.Places.{shown_there}
use Rattle.name_notes.specs.Notes.{method_of, used_by}
use Rattle.name_notes.proofs.Marking.{marked_next, marked_all}
use Rattle.name_notes.proofs.marks.marks_of.Goals as goal

pub note-requires : goal.note-requires
note-requires g c =
    (c.requires.0, (c.requires.1.0, (shown_there g.whole c.args.index.now.paths c.args.mentions.now c.loop-mention.mention-index c.mention-item.result c.requires.1.1 c.loop-mention-test.true c.mention-item.is, c.loop-mention.invariant.sized)))

pub loop-mention-preserved : goal.loop-mention-preserved
loop-mention-preserved g c =
    let paths = c.args.index.now.paths in
    let mentions = c.args.mentions.now in
    let i = c.loop-mention.mention-index in
    let m = c.mention-item.result in
    record {
      sized = c.note.ensures.sized;
      marked = record {
        methods = marked_next paths c.loop-mention.marks.methods.items c.note.new.marks.methods.items method_of mentions i m c.loop-mention-test.true c.mention-item.is c.note.ensures.methods c.loop-mention.invariant.marked.methods;
        used = marked_next paths c.loop-mention.marks.used.items c.note.new.marks.used.items (used_by (is_named g.whole.all)) mentions i m c.loop-mention-test.true c.mention-item.is c.note.ensures.used c.loop-mention.invariant.marked.used;
      };
    }

pub returns-clause-marked : goal.returns-clause-marked
returns-clause-marked g c =
    let paths = c.args.index.now.paths in
    let marks = c.loop-mention.marks in
    let i = c.loop-mention.mention-index in
    record {
      methods = marked_all paths marks.methods.items method_of c.args.mentions.now i c.loop-mention-test.false c.loop-mention.invariant.marked.methods;
      used = marked_all paths marks.used.items (used_by (is_named g.whole.all)) c.args.mentions.now i c.loop-mention-test.false c.loop-mention.invariant.marked.used;
    }
