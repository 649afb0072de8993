use Rattle.std.proofs.Common.{◌≡◌, false, ◌∙◌, sym, ap, subst}
use Rattle.asl_tree.specs.View.{trees_of}
use Rattle.term_plans.specs.Plans.{plans_of}
use Rattle.asl_numbers.specs.Numbers.{numbered_all}
use Rattle.acpi_names.specs.Terms.{are_terms}
use Rattle.name_checks.specs.Messages.{told_errors}
use Rattle.name_notes.specs.Notes.{name_notes}
use Rattle.region_checks.specs.Regions.{region_errors}
use Rattle.type_checks.specs.Types.{wrong_types}
use Rattle.block_checks.specs.Findings.{IsNamed}
use Rattle.block_checks.specs.Present.{IsPresenceOf}
use Rattle.block_checks.proofs.names.ask.Goals as goal

pub access_errors-requires-clause-terms : goal.access_errors-requires-clause-terms
access_errors-requires-clause-terms c = ap (λ ns. are_terms (trees_of ns)) c.in_ok-known.ensures.terms ∙ c.requires.terms

pub access_errors-requires-clause-present : goal.access_errors-requires-clause-present
access_errors-requires-clause-present c = subst (λ ns. IsPresenceOf (plans_of ns) c.args.present) (sym c.in_ok-known.ensures.terms) c.requires.present

pub access_errors-requires-clause-numbered : goal.access_errors-requires-clause-numbered
access_errors-requires-clause-numbered c = subst (λ ns. trees_of ns ≡ numbered_all 0 (plans_of ns)) (sym c.in_ok-known.ensures.terms) c.requires.numbered

pub wrong_types-requires-clause-terms : goal.wrong_types-requires-clause-terms
wrong_types-requires-clause-terms c = ap (λ ns. are_terms (trees_of ns)) c.in_ok-known.ensures.terms ∙ c.requires.terms

pub right_or_wrong-requires-clause-terms : goal.right_or_wrong-requires-clause-terms
right_or_wrong-requires-clause-terms c = ap (λ ns. are_terms (trees_of ns)) c.in_ok-known.ensures.terms ∙ c.requires.terms

pub returns-clause-names : goal.returns-clause-names
returns-clause-names c = subst (λ ns. IsNamed c.in_ok-names.names (told_errors (trees_of ns)) (λ path. false) (trees_of ns)) c.in_ok-known.ensures.terms c.in_ok-names.ensures

pub returns-clause-regions : goal.returns-clause-regions
returns-clause-regions c = c.in_ok-regions.ensures ∙ ap (λ ns. region_errors c.args.width (trees_of ns) (plans_of ns)) c.in_ok-known.ensures.terms

pub returns-clause-types : goal.returns-clause-types
returns-clause-types c = c.in_ok-types.ensures ∙ ap (λ ns. wrong_types (trees_of ns) (plans_of ns)) c.in_ok-known.ensures.terms

pub returns-clause-notes : goal.returns-clause-notes
returns-clause-notes c = c.in_ok-noted.ensures ∙ ap (λ ns. name_notes (trees_of ns)) c.in_ok-known.ensures.terms
