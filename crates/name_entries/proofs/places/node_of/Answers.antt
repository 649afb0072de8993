use Rattle.acpi_state.specs.Objects.{lookup}
use Rattle.name_kinds.proofs.Noting.{first_here}
use Rattle.name_entries.proofs.places.node_of.Goals as goal

pub returns : goal.returns
returns c p placed =
    let tables = c.args.tables.now in
    first_here c.args.paths.now tables.nodes.items c.args.number c.index.result.now (lookup p.nodes) c.len-count.ensures.distinct c.requires.within c.requires.sized.nodes c.index.ensures placed.nodes
