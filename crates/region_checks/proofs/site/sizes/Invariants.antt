use Rattle.std.proofs.Common.{◌≡◌, length, take, map}
use Rattle.acpi_state.specs.Objects.{lookup}
use Rattle.acpi_names.specs.Tables.{Tabled}
use Rattle.region_checks.specs.Regions.{sizes}
use Rattle.region_checks.specs.Shown.{site_as}
use Rattle.region_checks.proofs.site.sizes.Given as goal

abbrev pub invariant-loop-site : goal.invariant-loop-site
invariant-loop-site l = record {
  size : length l.table.items ≡ length l.index.paths;
  told : Tabled l.index.paths l.table.items (lookup (sizes (map (site_as l.index.paths) (take l.site-index l.sites))));
}
