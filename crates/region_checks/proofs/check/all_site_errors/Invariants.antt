use Rattle.std.proofs.Common.{◌≡◌, ◌++◌, drop, map}
use Rattle.acpi_state.specs.Objects.{lookup}
use Rattle.acpi_names.specs.Tables.{Tabled}
use Rattle.region_checks.specs.Regions.{sizes, all_site_errors}
use Rattle.region_checks.specs.Shown.{site_as}
use Rattle.region_checks.proofs.check.all_site_errors.Given as goal

abbrev pub ghost-sites : goal.ghost-sites
ghost-sites g a = g.whole

abbrev pub ghost-site_errors : goal.ghost-site_errors
ghost-site_errors g a = g.whole

abbrev pub invariant-loop-site : goal.invariant-loop-site
invariant-loop-site g l = record {
  regions : Tabled l.facts.index.paths l.table.items (lookup (sizes (map (site_as l.facts.index.paths) l.site-items)));
  told : l.out ++ all_site_errors g.whole (sizes (map (site_as l.facts.index.paths) l.site-items)) (map (site_as l.facts.index.paths) (drop l.site-index l.site-items)) ≡ all_site_errors g.whole (sizes (map (site_as l.facts.index.paths) l.site-items)) (map (site_as l.facts.index.paths) l.site-items);
}
