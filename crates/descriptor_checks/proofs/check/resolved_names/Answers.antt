use Rattle.std.proofs.Common.{◌++◌, false, sym, ap, ◌∙◌, subst}
use Rattle.asl_numbers.specs.Numbers.{numbered_all}
use Rattle.term_plans.specs.Plans.{plans_of}
use Rattle.descriptor_fields.specs.Declaring.{declaring}
use Rattle.descriptor_checks.specs.Fields.{AreFields}
use Rattle.descriptor_fields.specs.Nodes.{SaysAt}
use Rattle.descriptor_fields.specs.Constants.{broken_from, resolved_from}
use Rattle.descriptor_checks.specs.Resolved.{fields_of, mentions_of, names_of, table_of}
use Rattle.descriptor_fields.specs.Values.{OfCall}
use Rattle.descriptor_checks.proofs.check.resolved_names.Goals as goal

pub returns : goal.returns
returns c =
    let all = declaring (plans_of c.args.terms.items) in
    let plans = c.in_ok-all.ensures.plans ∙ c.in_ok-declared.ensures in
    let known = subst (λ qs. AreFields c.in_ok-index.index.paths (names_of qs) (table_of qs) c.in_ok-index.fields (mentions_of qs)) (ap plans_of c.deref.ensures.value ∙ plans) c.in_ok-index.ensures in
    let says = subst (λ t. SaysAt t (fields_of all)) (sym c.deref-2.ensures.value) known.places in
    let made = c.in_ok-resolved.ensures.made (fields_of all) says ∙ ap (resolved_from (fields_of all) OfCall 0 false 0) plans in
    record {
      terms = c.in_ok-terms.ensures.plans ∙ made;
      trees = c.in_ok-terms.ensures.trees ∙ ap (numbered_all 0) made;
      uses = record {
        wrong = known.wrong;
        broken = c.in_ok-resolved.ensures.told (fields_of all) says ∙ ap (λ ms. ms ++ broken_from (fields_of all) OfCall 0 false 0 (plans_of c.in_ok-all.all.items)) c.new-broken.ensures.items
            ∙ ap (broken_from (fields_of all) OfCall 0 false 0) plans;
        owners = known.owners;
      };
    }
