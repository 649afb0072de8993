use Rattle.std.proofs.Common.{◌++◌, sym, ap, ◌∙◌}
use Rattle.name_kinds.specs.Ends.{ended}
use Rattle.region_checks.specs.Regions.{site_errors}
use Rattle.region_checks.specs.Shown.{site_as}
use Rattle.region_checks.proofs.Joins.{right_nil}
use Rattle.region_checks.proofs.Units.{told_field}
use Rattle.region_checks.proofs.check.site_errors.Goals as goal

pub returns-in_ok-tell-in-Field : goal.returns-in_ok-tell-in-Field
returns-in_ok-tell-in-Field g c regions tabled =
    let paths = c.args.facts.now.index.paths in
    told_field regions c.in-Field.here.place c.in-Field.access c.size_of-size.result c.in-Field.units c.fault_at_end.result (ended paths c.region_end-end.result) _ c.args.out.now c.field_errors.new.out c.tell.new.out
    c.in_ok-field_errors-in-Field.ensures c.in_ok-tell-in-Field.ensures (c.size_of-size.ensures regions tabled) (c.fault_at_end.ensures paths) c.region_end-end.ensures
    ∙ ap (λ s. c.args.out.now ++ site_errors g.whole regions (site_as paths s)) (sym c.in-Field.is)

pub returns-in-Region : goal.returns-in-Region
returns-in-Region g c regions tabled =
    sym (right_nil c.args.out.now) ∙ ap (λ s. c.args.out.now ++ site_errors g.whole regions (site_as c.args.facts.now.index.paths s)) (sym c.in-Region.is)
