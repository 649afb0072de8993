use Rattle.acpi_state.specs.Objects.{lookup}
use Rattle.name_kinds.specs.Kinds.{type_as}
use Rattle.name_kinds.proofs.Noting.{look_here}
use Rattle.name_checks.proofs.rules.first_external.Goals as goal

pub returns : goal.returns
returns g c =
    look_here type_as c.args.facts.now.index.paths c.args.facts.now.tables.externals.items c.args.number c.index.result.now (lookup g.whole.all.external) c.len-count.ensures.distinct c.requires.1 c.requires.0.sized.externals c.index.ensures c.requires.0.notes.externals
