use Rattle.std.proofs.Common.{Some, None, ◌∙◌}
use Rattle.asl_preprocess.proofs.Fetching.{search_none, search_step}
use Rattle.asl_preprocess.proofs.search.search.Goals as goal

pub loop-name-preserved : goal.loop-name-preserved
loop-name-preserved g c = record {
  contents = c.in-Ok-None.ensures.contents ∙ c.loop-name.invariant.contents;
  faults = c.in-Ok-None.ensures.faults ∙ c.loop-name.invariant.faults;
  found = λ told k.
      c.loop-name.invariant.found told k
      ∙ search_step told c.args.names.now c.loop-name.name-index c.name-item.result None c.loop-name-test.true c.name-item.is ((rw c.in-Ok-None.field-0-is at c.in-Ok-None.ensures.found) told (c.loop-name.invariant.contents ∙ k));
}

pub returns-clause-found : goal.returns-clause-found
returns-clause-found g c told k = c.loop-name.invariant.found told k ∙ search_none told c.args.names.now c.loop-name.name-index c.loop-name-test.false

pub returns-in-Ok-Some-clause-found : goal.returns-in-Ok-Some-clause-found
returns-in-Ok-Some-clause-found g c told k =
    c.loop-name.invariant.found told k
    ∙ search_step told c.args.names.now c.loop-name.name-index c.name-item.result (Some c.in-Ok-Some.found) c.loop-name-test.true c.name-item.is ((rw c.in-Ok-Some.field-0-is at c.in-Ok-Some.ensures.found) told (c.loop-name.invariant.contents ∙ k))
