use Rattle.std.proofs.Common.{Vec, Global, refl, sym, ap, ◌∙◌, subst}
use Rattle.acpi_values.specs.Revisions.{width_of}
use Rattle.asl_tree.specs.declared.term.Node.{Node}
use Rattle.term_plans.specs.Plans.{plans_of}
use Rattle.asl_numbers.specs.Numbers.{numbered_all}
use Rattle.named_sessions.specs.Shaped.{AreFormed, AreNamed}
use Rattle.region_checks.specs.Regions.{region_errors}
use Rattle.type_checks.specs.Types.{wrong_types}
use Rattle.descriptor_checks.specs.Resolved.{checked_terms, described_paths, resolved_terms}
use Rattle.descriptor_checks.specs.Told.{checked_trees}
use Rattle.block_checks.specs.Told.{noted_of, told_of_names}
use Rattle.block_checks.specs.Findings.{IsNamed}
use Rattle.block_checks.proofs.names.name_block.Goals as goal

pub named_terms-requires : goal.named_terms-requires
named_terms-requires c =
    (refl, subst (λ (ts : Vec Node Global). AreFormed (Unit {0}) AreNamed (Unit {0}) (Unit {0}) (numbered_all 0 (plans_of ts.items))) (sym c.replace-terms.ensures.value) c.requires)

pub returns-clause-plans : goal.returns-clause-plans
returns-clause-plans c = c.in_ok-terms.ensures.plans ∙ ap (λ (ts : Vec Node Global). resolved_terms (plans_of ts.items)) c.replace-terms.ensures.value

pub returns-clause-trees : goal.returns-clause-trees
returns-clause-trees c = c.in_ok-terms.ensures.trees ∙ ap (λ (ts : Vec Node Global). numbered_all 0 (resolved_terms (plans_of ts.items))) c.replace-terms.ensures.value

pub returns-clause-names : goal.returns-clause-names
returns-clause-names c =
    subst (λ (ts : Vec Node Global). IsNamed c.in_ok-terms.field-0.told.names (told_of_names (plans_of ts.items)) (described_paths (plans_of ts.items)) (numbered_all 0 (resolved_terms (plans_of ts.items)))) c.replace-terms.ensures.value c.in_ok-terms.ensures.names

pub returns-clause-regions : goal.returns-clause-regions
returns-clause-regions c =
    c.in_ok-terms.ensures.regions
    ∙ ap (λ w. region_errors w (checked_trees (plans_of c.replace-terms.result.items)) (checked_terms (plans_of c.replace-terms.result.items))) c.of_revision.ensures
    ∙ ap (λ (ts : Vec Node Global). region_errors (width_of c.args.block.revision) (checked_trees (plans_of ts.items)) (checked_terms (plans_of ts.items))) c.replace-terms.ensures.value

pub returns-clause-types : goal.returns-clause-types
returns-clause-types c =
    c.in_ok-terms.ensures.types ∙ ap (λ (ts : Vec Node Global). wrong_types (checked_trees (plans_of ts.items)) (checked_terms (plans_of ts.items))) c.replace-terms.ensures.value

pub returns-clause-notes : goal.returns-clause-notes
returns-clause-notes c = c.in_ok-terms.ensures.notes ∙ ap (λ (ts : Vec Node Global). noted_of (plans_of ts.items)) c.replace-terms.ensures.value
