use Rattle.std.proofs.Common.{map, sym, ap, ◌∙◌}
use Rattle.std.proofs.lemmas.List.{take_all}
use Rattle.acpi_state.specs.Objects.{lookup}
use Rattle.region_checks.specs.Regions.{sizes}
use Rattle.region_checks.specs.Shown.{site_as}
use Rattle.region_checks.proofs.Walks.{sizes_next}
use Rattle.region_checks.proofs.site.sizes.Goals as goal

pub loop-site-preserved : goal.loop-site-preserved
loop-site-preserved c = record {
  size = c.note_site.ensures.size;
  told = λ path. c.note_site.ensures.noted _ c.loop-site.invariant.told path ∙ ap (λ rs. lookup rs path) (sym (sizes_next c.args.index.now.paths c.args.sites.now c.loop-site.site-index c.site-item.result c.loop-site-test.true c.site-item.is));
}

pub returns-clause-told : goal.returns-clause-told
returns-clause-told c path =
    c.loop-site.invariant.told path ∙ ap (λ xs. lookup (sizes (map (site_as c.args.index.now.paths) xs)) path) (take_all c.loop-site.site-index c.args.sites.now c.loop-site-test.false)
