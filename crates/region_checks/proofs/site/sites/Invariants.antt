use Rattle.std.proofs.Common.{◌≡◌, ◌≤◌, ◌++◌, length, drop, map}
use Rattle.std.specs.List.{All}
use Rattle.acpi_names.specs.Shown.{all_shown}
use Rattle.region_checks.specs.Measures.{joined}
use Rattle.region_checks.specs.Shown.{site_as, IsWithin}
use Rattle.region_checks.proofs.site.sites.Given as goal

abbrev pub ghost-site_with : goal.ghost-site_with
ghost-site_with g a = g.whole

abbrev pub invariant-loop-mention : goal.invariant-loop-mention
invariant-loop-mention g l = record {
  few : l.next ≤ l.mention-index;
  within : All (IsWithin (length l.index.paths)) l.out.items;
  told : map (site_as l.index.paths) l.out.items ++ joined (drop l.mention-index (all_shown l.index.paths l.mentions)) (drop l.next l.measures) ≡ joined (all_shown l.index.paths l.mentions) l.measures;
}
