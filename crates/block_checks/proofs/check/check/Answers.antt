use Rattle.std.proofs.Common.{◌≡◌, sym, ap, ◌∙◌, subst}
use Rattle.acpi_values.specs.Revisions.{width_of}
use Rattle.acpi_values.specs.declared.width.Width.{Width}
use Rattle.aml_code.specs.Header.{HeaderFields}
use Rattle.term_plans.specs.Plans.{Plans, plans_of}
use Rattle.descriptor_checks.specs.Resolved.{checked_terms, resolved_terms}
use Rattle.descriptor_checks.specs.Told.{checked_trees}
use Rattle.region_checks.specs.Regions.{region_errors}
use Rattle.block_checks.specs.Present.{IsPresenceOf}
use Rattle.block_checks.specs.Told.{others_of}
use Rattle.block_checks.proofs.check.check.Goals as goal

pub returns-clause-errors : goal.returns-clause-errors
returns-clause-errors c =
    let made = c.in_ok-block.field-0.block in
    let is = c.in_ok-block.ensures in
    let told = c.in_ok-block.field-0.told in
    let ps : Plans = plans_of c.args.block.terms.items in
    let width : Width = width_of c.args.block.revision in
    let same : c.of_revision-width.result ≡ width = c.of_revision-width.ensures ∙ ap (λ (f : HeaderFields). width_of f.revision) is.fields in
    let plans : plans_of c.as_slice-terms.result.now ≡ resolved_terms ps = ap plans_of c.as_slice-terms.ensures.value ∙ is.plans in
    c.in_ok-errors.ensures
    ∙ ap (λ w. others_of w (plans_of c.as_slice-terms.result.now) told.regions told.types) same
    ∙ ap (λ qs. others_of width qs told.regions told.types) plans
    ∙ ap (λ rs. others_of width (resolved_terms ps) rs told.types) is.regions
    ∙ ap (others_of width (resolved_terms ps) (region_errors width (checked_trees ps) (checked_terms ps))) is.types

pub other_errors-requires : goal.other_errors-requires
other_errors-requires c = subst (λ ns. IsPresenceOf (plans_of ns) c.in_ok-block.field-0.present) (sym c.as_slice-terms.ensures.value) c.in_ok-block.ensures.present
