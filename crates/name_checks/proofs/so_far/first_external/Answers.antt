use Rattle.acpi_state.specs.Objects.{lookup}
use Rattle.name_kinds.specs.Kinds.{type_as}
use Rattle.name_kinds.proofs.Noting.{look_here}
use Rattle.name_checks.proofs.so_far.first_external.Goals as goal

pub returns : goal.returns
returns c d before =
    look_here type_as c.args.paths.now c.args.so_far.now.externals.items c.args.number c.index.result.now (lookup d.external) c.len-count.ensures.distinct c.requires.within c.requires.sized.externals c.index.ensures before.externals
