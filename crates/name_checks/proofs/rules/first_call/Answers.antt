use Rattle.acpi_state.specs.Objects.{lookup}
use Rattle.name_kinds.proofs.Noting.{first_here}
use Rattle.name_checks.proofs.rules.first_call.Goals as goal

pub returns : goal.returns
returns g c =
    first_here c.args.facts.now.index.paths c.args.facts.now.tables.calls.items c.args.number c.index.result.now (lookup g.whole.calls) c.len-count.ensures.distinct c.requires.1 c.requires.0.sized.calls c.index.ensures c.requires.0.notes.first
