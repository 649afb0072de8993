use Rattle.std.proofs.Common.{◌∙◌, ap, sym}
use Rattle.name_kinds.specs.Ends.{ended}
use Rattle.name_kinds.specs.Kinds.{object_as}
use Rattle.region_checks.specs.Regions.{size_at}
use Rattle.region_checks.proofs.Walks.{size_found}
use Rattle.region_checks.proofs.check.size_of.Goals as goal

pub returns-in-Some : goal.returns-in-Some
returns-in-Some g c regions tabled =
    size_found c.args.facts.now.index.paths c.args.table.now regions c.scope_in.result c.in-Some.end.path (object_as c.in-Some.end.object) c.len-count.ensures.distinct c.scope_in.ensures.within c.scope_in.ensures.path tabled
    ∙ ap (λ e. size_at regions (ended c.args.facts.now.index.paths e)) (sym c.in-Some.is)
