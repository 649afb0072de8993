use Rattle.std.proofs.Common.{[], get_or, sym, ◌∙◌}
use Rattle.acpi_state.specs.Objects.{lookup}
use Rattle.asl_meaning.specs.Declarations.{is_named, declared_kinds}
use Rattle.name_kinds.specs.Kinds.{kind_as, type_as}
use Rattle.name_kinds.proofs.Noting.{look_here, first_here}
use Rattle.name_kinds.proofs.Lookups.{kind_known, kind_same}
use Rattle.name_kinds.proofs.ends.kind.Goals as goal

pub returns : goal.returns
returns g c =
    let tables = c.args.tables.now in
    let paths = c.args.paths.now in
    let n = c.args.number in
    let path = get_or paths n [] in
    let told = c.requires.0 in
    let lt = c.requires.1 in
    let distinct = c.len-count.ensures.distinct in
    c.kind_from.ensures paths
    ∙ kind_same _ _ _ _ _ _ _ _
    (look_here (kind_as paths) paths tables.kinds.items n c.index.result.now (lookup (declared_kinds (is_named g.whole.all) g.whole.all.declared)) distinct lt told.sized.kinds c.index.ensures told.notes.kinds)
    (look_here type_as paths tables.externals.items n c.index-2.result.now (lookup g.whole.all.external) distinct lt told.sized.externals c.index-2.ensures told.notes.externals)
    (first_here paths tables.calls.items n c.index-3.result.now (lookup g.whole.calls) distinct lt told.sized.calls c.index-3.ensures told.notes.first)
    c.root_at-object.ensures
    ∙ kind_known g.whole told.known path (sym c.is_root.ensures ∙ c.if-is_root.false)
