use Rattle.std.proofs.Common.{[], get_or, sym, ap, ◌∙◌}
use Rattle.acpi_names.specs.Paths.{number_in}
use Rattle.acpi_names.specs.Shown.{written_as}
use Rattle.asl_tree.specs.Names.{below, declared_path}
use Rattle.name_kinds.proofs.tables.declared_in.Goals as goal

pub returns-in-Path : goal.returns-in-Path
returns-in-Path c =
    let paths = c.args.paths.now in
    c.find.ensures
    ∙ ap (λ segs. number_in paths (below (get_or paths c.prefixed-outer.result []) segs)) c.as_slice.ensures
    ∙ ap (λ p. number_in paths (below p c.in-Path.path.now.segs)) c.prefixed-outer.ensures.path
    ∙ ap (λ name. number_in paths (declared_path (written_as name) (get_or paths c.args.scope []))) (sym c.in-Path.is)

pub returns-in-Segment : goal.returns-in-Segment
returns-in-Segment c =
    let paths = c.args.paths.now in
    c.child.ensures.number ∙ ap (λ name. number_in paths (declared_path (written_as name) (get_or paths c.args.scope []))) (sym c.in-Segment.is)
