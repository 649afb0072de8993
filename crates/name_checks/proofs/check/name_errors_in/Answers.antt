use Rattle.std.proofs.Common.{map, refl, sym, ap, ◌∙◌, subst}
use Rattle.asl_tree.specs.View.{trees_of}
use Rattle.asl_meaning.specs.Declarations.{nothing_declared}
use Rattle.acpi_names.specs.Mentions.{all_errors}
use Rattle.acpi_names.specs.Shown.{all_shown}
use Rattle.name_kinds.specs.Facts.{Knows}
use Rattle.name_kinds.specs.Seen.{seen}
use Rattle.name_checks.specs.Messages.{message_of}
use Rattle.name_checks.proofs.Blocks.{names_told}
use Rattle.name_checks.proofs.check.name_errors_in.Goals as goal

pub name_faults-requires : goal.name_faults-requires
name_faults-requires c =
    let known = c.args.known.now in
    let told = ap (all_shown known.facts.index.paths) c.deref.ensures.value ∙ c.requires.mentions in
    (subst (λ ms. Knows known.facts (seen ms)) (sym told) c.requires.facts, refl)

pub returns : goal.returns
returns c are =
    let known = c.args.known.now in
    let told = ap (all_shown known.facts.index.paths) c.deref.ensures.value ∙ c.requires.mentions in
    c.in_ok-errors.ensures ∙ ap (λ ms. map message_of (all_errors (seen ms) ms nothing_declared)) told ∙ ap (map message_of) (names_told (trees_of known.terms.now) are)
