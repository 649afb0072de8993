use Rattle.name_checks.proofs.Noting.{declared_more}
use Rattle.name_checks.proofs.so_far.note_declared.Goals as goal

pub returns-clause-noted : goal.returns-clause-noted
returns-clause-noted c d as' before = record {
  declared = declared_more c.args.paths.now c.args.so_far.now.declared.items c.args.number as' d c.len-count.ensures.distinct c.requires.within c.requires.sized.declared before.declared;
  externals = before.externals;
}
