use Rattle.std.proofs.Common.{None, ◌∙◌, arith}
use Rattle.name_kinds.proofs.Noting.{first_set, later_kept, read_at}
use Rattle.name_kinds.proofs.tables.note_call.Goals as goal

pub returns-in-None-clause-noted : goal.returns-in-None-clause-noted
returns-in-None-clause-noted c has calls d notes = record {
  kinds = notes.kinds;
  externals = notes.externals;
  first = first_set c.args.index.now.paths c.args.tables.now.calls.items c.args.number c.args.args calls c.len-count.ensures.distinct c.requires.within c.requires.sized.calls (read_at c.args.tables.now.calls.items c.args.number c.index.result.now None (omega (arith, c.requires.within, c.requires.sized.calls)) c.index.ensures ∙ c.in-None.is) notes.first;
}

pub returns-in-Some-clause-noted : goal.returns-in-Some-clause-noted
returns-in-Some-clause-noted c has calls d notes = record {
  kinds = notes.kinds;
  externals = notes.externals;
  first = later_kept c.args.index.now.paths c.args.tables.now.calls.items c.args.number c.args.args c.in-Some.field-0 calls c.len-count.ensures.distinct c.requires.within (read_at c.args.tables.now.calls.items c.args.number c.index.result.now None (omega (arith, c.requires.within, c.requires.sized.calls)) c.index.ensures ∙ c.in-Some.is) notes.first;
}
