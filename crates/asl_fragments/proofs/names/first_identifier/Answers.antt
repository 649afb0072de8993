use Rattle.std.proofs.Common.{rules, sym, ap, ◌∙◌, ◌≡◌, ◌<◌, ◌++◌, false, [], length}
use Rattle.asl_fragments.specs.Fragments.{fragments, identifiers, identifier_by}
use Rattle.asl_fragments.proofs.Skips.{identifiers_step, alone_run, no_identifiers}
use Rattle.asl_fragments.proofs.names.first_identifier.Goals as goal

pub returns-clause-first : goal.returns-clause-first
returns-clause-first c = sym c.loop-rest.invariant.same ∙ no_identifiers c.loop-rest.inside c.loop-rest.rest.now (search rules)

pub returns-in-Identifier-clause-first : goal.returns-in-Identifier-clause-first
returns-in-Identifier-clause-first c =
    let some : 0 < length c.loop-rest.rest.now = search rules in
    sym c.loop-rest.invariant.same
    ∙ identifiers_step c.loop-rest.inside c.loop-rest.rest.now c.split_at.result.0.now c.split_at.result.1.now c.first_fragment-fragment.result c.first_fragment-fragment.ensures.exact some c.first_fragment-fragment.ensures.forward c.split_at.ensures.front c.split_at.ensures.back
    ∙ ap (λ k. identifier_by k c.split_at.result.0.now ++ identifiers (fragments false c.split_at.result.1.now)) c.in-Identifier.is

pub loop-rest-preserved : goal.loop-rest-preserved
loop-rest-preserved c =
    let some : 0 < length c.loop-rest.rest.now = search rules in
    let none : identifier_by c.first_fragment-fragment.result.kind c.split_at.result.0.now ≡ [] = search rules in
    record {
      same =
          ap (λ r. identifiers (fragments false r)) c.past_alone-rest.ensures.is ∙ alone_run c.split_at.result.1.now
          ∙ sym (ap (λ us. us ++ identifiers (fragments false c.split_at.result.1.now)) none)
          ∙ sym (identifiers_step c.loop-rest.inside c.loop-rest.rest.now c.split_at.result.0.now c.split_at.result.1.now c.first_fragment-fragment.result c.first_fragment-fragment.ensures.exact some c.first_fragment-fragment.ensures.forward c.split_at.ensures.front c.split_at.ensures.back)
          ∙ c.loop-rest.invariant.same;
      within = search rules;
    }
