use Rattle.name_entries.proofs.Placing.{place_set}
use Rattle.name_entries.proofs.places.note_declared.Goals as goal

pub returns-clause-placed : goal.returns-clause-placed
returns-clause-placed c p before = record {
  declared = place_set c.args.paths.now c.args.tables.now.declared.items c.args.number c.args.at.place p.declared c.len-count.ensures.distinct c.requires.within c.requires.sized.declared before.declared;
  nodes = place_set c.args.paths.now c.args.tables.now.nodes.items c.args.number c.args.at.id p.nodes c.len-count.ensures.distinct c.requires.within c.requires.sized.nodes before.nodes;
  external = before.external;
}
