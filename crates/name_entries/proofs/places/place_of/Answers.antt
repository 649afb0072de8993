use Rattle.std.proofs.Common.{[], get_or, ap, ◌∙◌}
use Rattle.acpi_state.specs.Objects.{lookup}
use Rattle.name_kinds.proofs.Noting.{first_here}
use Rattle.name_entries.specs.Placed.{first_place}
use Rattle.name_entries.proofs.places.place_of.Goals as goal

pub returns : goal.returns
returns c p placed =
    let paths = c.args.paths.now in
    let tables = c.args.tables.now in
    let n = c.args.number in
    let distinct = c.len-count.ensures.distinct in
    let lt = c.requires.within in
    c.first_of.ensures
    ∙ ap (λ o. first_place o c.index-2.result.now) (first_here paths tables.declared.items n c.index.result.now (lookup p.declared) distinct lt c.requires.sized.declared c.index.ensures placed.declared)
    ∙ ap (first_place (lookup p.declared (get_or paths n []))) (first_here paths tables.external.items n c.index-2.result.now (lookup p.external) distinct lt c.requires.sized.external c.index-2.ensures placed.external)
