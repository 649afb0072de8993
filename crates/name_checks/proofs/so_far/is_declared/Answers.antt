use Rattle.std.proofs.Common.{[], get_or, ◌∙◌}
use Rattle.name_checks.proofs.Noting.{flag_here}
use Rattle.name_checks.proofs.so_far.is_declared.Goals as goal

pub returns : goal.returns
returns c d before =
    flag_here c.args.paths.now c.args.so_far.now.declared.items c.args.number c.index.result.now c.len-count.ensures.distinct c.requires.within c.requires.sized.declared c.index.ensures
    ∙ before.declared (get_or c.args.paths.now c.args.number [])
