use Rattle.std.proofs.Common.{[], get_or, sym, ◌∙◌}
use Rattle.asl_meaning.specs.Declarations.{in_root}
use Rattle.name_entries.proofs.Placing.{place_set, outside_set}
use Rattle.name_entries.proofs.places.note_outside.Goals as goal

pub returns-then-not-is_in_root-clause-placed : goal.returns-then-not-is_in_root-clause-placed
returns-then-not-is_in_root-clause-placed c p before =
    let path = get_or c.args.paths.now c.args.number [] in
    outside_set c.args.paths.now _ (in_root path) path c.args.at p (sym c.is_in_root.ensures ∙ c.if-not-is_in_root.true) (record {
      declared = before.declared;
      nodes = before.nodes;
      external = place_set c.args.paths.now c.args.tables.now.external.items c.args.number c.args.at p.external c.len-count.ensures.distinct c.requires.within c.requires.sized.external before.external;
    })
