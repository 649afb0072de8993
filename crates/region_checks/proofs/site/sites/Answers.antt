use Rattle.std.proofs.Common.{length, Vec, Global, subst, sym, ap, arith}
use Rattle.std.specs.List.{All}
use Rattle.name_kinds.proofs.Places.{shown_there}
use Rattle.region_checks.proofs.Walks.{site_put, site_skipped, within_more, sites_end}
use Rattle.region_checks.specs.declared.site.Site.{Site as CodeSite}
use Rattle.region_checks.specs.Shown.{IsWithin}
use Rattle.region_checks.proofs.site.sites.Goals.{in-Some+in_ok-push, in_default}
use Rattle.region_checks.proofs.site.sites.Goals as goal

pub site_with-requires : goal.site_with-requires
site_with-requires g c = (c.requires.0, shown_there g.whole c.args.index.now.paths c.args.mentions.now c.loop-mention.mention-index c.mention-item.result c.requires.1 c.loop-mention-test.true c.mention-item.is)

pub loop-mention-preserved : goal.loop-mention-preserved
loop-mention-preserved g c = elim c.match-site_with.branch [
  | in-Some+in_ok-push w ↦ record {
    few = omega (arith, w.next-is, c.loop-mention.invariant.few);
    within = within_more (length c.args.index.now.paths) w.in-Some.site c.loop-mention.out.items w.push.new.self.items c.match-site_with.out.items (ap (λ (v : Vec CodeSite Global). v.items) w.out-is) w.in_ok-push.ensures.items w.in-Some.ensures.within c.loop-mention.invariant.within;
    told = site_put c.args.index.now.paths c.args.mentions.now c.args.measures.now c.loop-mention.mention-index c.loop-mention.next c.match-site_with.next c.mention-item.result c.measure_at.result w.in-Some.site c.loop-mention.out.items w.push.new.self.items c.match-site_with.out.items _ c.loop-mention-test.true c.mention-item.is c.measure_at.ensures w.in-Some.ensures.site
        w.in-Some.ensures.site_is w.in_ok-push.ensures.items (ap (λ (v : Vec CodeSite Global). v.items) w.out-is) w.next-is c.loop-mention.invariant.told;
  }
  | in_default w ↦ record {
    few = omega (arith, w.next-is, c.loop-mention.invariant.few);
    within = subst (λ (v : Vec CodeSite Global). All (IsWithin (length c.args.index.now.paths)) v.items) (sym w.out-is) c.loop-mention.invariant.within;
    told = site_skipped c.args.index.now.paths c.args.mentions.now c.args.measures.now c.loop-mention.mention-index c.loop-mention.next c.match-site_with.next c.mention-item.result c.measure_at.result c.loop-mention.out.items c.match-site_with.out.items _ c.loop-mention-test.true c.mention-item.is c.measure_at.ensures w.in_default.ensures.site w.in_default.ensures.site_is
        (ap (λ (v : Vec CodeSite Global). v.items) w.out-is) w.next-is c.loop-mention.invariant.told;
  }
]

pub returns-clause-told : goal.returns-clause-told
returns-clause-told g c = sites_end c.args.index.now.paths c.args.mentions.now c.args.measures.now _ c.loop-mention.mention-index c.loop-mention.out.items _ c.loop-mention-test.false c.loop-mention.invariant.told
