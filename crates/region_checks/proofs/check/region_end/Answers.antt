use Rattle.region_checks.proofs.Walks.{end_found, no_end}
use Rattle.region_checks.proofs.check.region_end.Goals as goal

pub returns-in-None : goal.returns-in-None
returns-in-None g c = no_end g.whole c.args.region.now _ c.in-None.ensures.path

pub returns-in-Some : goal.returns-in-Some
returns-in-Some g c = end_found g.whole c.args.region.now _ _ _ c.in-Some.ensures.path c.end.ensures
