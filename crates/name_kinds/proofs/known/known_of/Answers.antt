use Rattle.std.proofs.Common.{[], refl, sym, ap, ◌∙◌, subst}
use Rattle.asl_tree.specs.View.{trees_of}
use Rattle.asl_meaning.specs.Declarations.{is_named, nothing_declared}
use Rattle.acpi_names.specs.Mentions.{after_all}
use Rattle.acpi_names.specs.Shown.{all_shown}
use Rattle.acpi_names.proofs.Mentions.{after_block}
use Rattle.name_kinds.specs.Facts.{Knows}
use Rattle.name_kinds.specs.Seen.{seen}
use Rattle.name_kinds.proofs.known.known_of.Goals as goal

pub facts_of-requires : goal.facts_of-requires
facts_of-requires c =
    let told = ap (all_shown c.in_ok-index.field-0.index.paths) c.deref.ensures.value ∙ c.in_ok-index.ensures.told in (
      c.in_ok-index.ensures.size,
      (
        (λ path. c.in_ok-index.ensures.names path ∙ ap (λ d. is_named d path) (sym (after_block (trees_of c.args.terms.now) [] nothing_declared)) ∙ ap (λ ms. is_named (after_all ms nothing_declared) path) (sym told)),
        (refl, (refl, refl)),
      ),
    )

pub returns-clause-known : goal.returns-clause-known
returns-clause-known c =
    let paths = c.in_ok-index.field-0.index.paths in
    let told = ap (all_shown paths) c.deref.ensures.value ∙ c.in_ok-index.ensures.told in
    record {
      mentions = ap (λ i. all_shown i.paths c.in_ok-index.field-0.mentions.items) c.in_ok-facts.ensures.same ∙ c.in_ok-index.ensures.told;
      facts = subst (λ ms. Knows c.in_ok-facts.facts (seen ms)) told c.in_ok-facts.ensures.told;
    }
