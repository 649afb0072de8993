use Rattle.name_notes.proofs.Marking.{flag_is}
use Rattle.name_notes.proofs.marks.is_marked.Goals as goal

pub returns : goal.returns
returns c test marked = flag_is c.args.paths.now c.args.flags.now c.args.number test c.len-count.ensures.distinct c.requires.within marked
