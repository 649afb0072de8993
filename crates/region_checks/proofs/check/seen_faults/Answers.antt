use Rattle.std.proofs.Common.{◌≡◌, length, arith, [], ◌++◌, refl, sym, ap, ◌∙◌, subst}
use Rattle.std.proofs.lemmas.Grind.{common_steps}
use Rattle.asl_tree.specs.View.{trees_of}
use Rattle.term_plans.specs.Plans.{plans_of}
use Rattle.asl_meaning.specs.Declarations.{nothing_declared}
use Rattle.acpi_names.specs.Mentions.{block_mentions}
use Rattle.acpi_names.specs.Shown.{all_shown}
use Rattle.name_kinds.specs.Facts.{Knows}
use Rattle.name_kinds.specs.Seen.{seen}
use Rattle.region_checks.specs.Measures.{measures_all}
use Rattle.region_checks.proofs.Walks.{block_faults, nothing_told}
use Rattle.region_checks.proofs.check.seen_faults.Goals as goal

pub all_site_errors-requires : goal.all_site_errors-requires
all_site_errors-requires c =
    let known = c.args.known.now in
    let told = ap (all_shown known.facts.index.paths) c.deref.ensures.value ∙ c.requires.mentions in
    (subst (λ ms. Knows known.facts (seen ms)) (sym told) c.requires.facts, refl)

pub returns : goal.returns
returns c =
    let terms = c.args.known.now.terms.now in
    let told = ap (all_shown c.args.known.now.facts.index.paths) c.deref.ensures.value ∙ c.requires.mentions in
    let measured = c.deref-2.ensures.value ∙ c.in_ok-all_measures.ensures ∙ ap (λ xs. xs ++ measures_all c.args.width (trees_of terms) (plans_of terms)) c.new-measures.ensures.items in
    block_faults c.args.width (trees_of terms) (plans_of terms) _ c.deref-2.result.now c.in_ok-out.out told measured c.in_ok-out.ensures

pub returns-then-is_empty : goal.returns-then-is_empty
returns-then-is_empty c =
    let terms = c.args.known.now.terms.now in
    let none : length c.all_measures.new.out.items ≡ 0 = grind (arith, common_steps) in
    nothing_told c.args.width (trees_of terms) (plans_of terms) (seen (block_mentions (trees_of terms) [] nothing_declared)) c.all_measures.new.out.items c.new.result (c.in_ok-all_measures.ensures ∙ ap (λ xs. xs ++ measures_all c.args.width (trees_of terms) (plans_of terms)) c.new-measures.ensures.items) none c.new.ensures
