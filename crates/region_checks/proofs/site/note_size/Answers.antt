use Rattle.std.proofs.Common.{[], ◌∷◌, ◌++◌, get_or, sym, subst}
use Rattle.acpi_state.specs.Objects.{lookup}
use Rattle.acpi_names.specs.Tables.{Tabled}
use Rattle.region_checks.specs.Regions.{sizes}
use Rattle.region_checks.specs.Sites.{RegionAt}
use Rattle.region_checks.proofs.Joins.{right_nil}
use Rattle.region_checks.proofs.site.note_size.Goals as goal

pub returns-in-Some-clause-noted : goal.returns-in-Some-clause-noted
returns-in-Some-clause-noted c before tabled =
    subst (λ s. Tabled c.args.index.now.paths c.note_region.new.table.items (lookup (before ++ sizes (RegionAt (get_or c.args.index.now.paths c.args.path []) s ∷ [])))) (sym c.in-Some.is) (c.note_region.ensures.noted before tabled)

pub returns-in-None-clause-noted : goal.returns-in-None-clause-noted
returns-in-None-clause-noted c before tabled =
    subst (λ s. Tabled c.args.index.now.paths c.args.table.now.items (lookup (before ++ sizes (RegionAt (get_or c.args.index.now.paths c.args.path []) s ∷ [])))) (sym c.in-None.is)
    (subst (λ rs. Tabled c.args.index.now.paths c.args.table.now.items (lookup rs)) (sym (right_nil before)) tabled)
