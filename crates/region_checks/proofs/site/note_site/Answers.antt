use Rattle.std.proofs.Common.{[], ◌∷◌, ◌++◌, sym, subst}
use Rattle.acpi_state.specs.Objects.{lookup}
use Rattle.acpi_names.specs.Tables.{Tabled}
use Rattle.region_checks.specs.Regions.{sizes}
use Rattle.region_checks.specs.Shown.{site_as}
use Rattle.region_checks.proofs.Joins.{right_nil}
use Rattle.region_checks.proofs.site.note_site.Goals as goal

pub returns-in-Region-clause-noted : goal.returns-in-Region-clause-noted
returns-in-Region-clause-noted c before tabled =
    subst (λ s. Tabled c.args.index.now.paths c.note_size.new.table.items (lookup (before ++ sizes (site_as c.args.index.now.paths s ∷ [])))) (sym c.in-Region.is) (c.note_size.ensures.noted before tabled)

pub returns-in-Field-clause-noted : goal.returns-in-Field-clause-noted
returns-in-Field-clause-noted c before tabled =
    subst (λ s. Tabled c.args.index.now.paths c.args.table.now.items (lookup (before ++ sizes (site_as c.args.index.now.paths s ∷ [])))) (sym c.in-Field.is)
    (subst (λ rs. Tabled c.args.index.now.paths c.args.table.now.items (lookup rs)) (sym (right_nil before)) tabled)
