use Rattle.std.proofs.Common.{map, sym, ap, ◌∙◌, subst}
use Rattle.asl_tree.specs.View.{trees_of}
use Rattle.acpi_names.specs.Mentions.{all_types}
use Rattle.acpi_names.specs.Shown.{all_shown}
use Rattle.name_kinds.specs.Facts.{Knows}
use Rattle.name_kinds.specs.Seen.{seen}
use Rattle.name_checks.specs.Messages.{message_of}
use Rattle.name_checks.proofs.Blocks.{kinds_told}
use Rattle.name_checks.proofs.check.kind_errors.Goals as goal

pub kind_faults-requires : goal.kind_faults-requires
kind_faults-requires c =
    let known = c.args.known.now in
    let told = ap (all_shown known.facts.index.paths) c.deref.ensures.value ∙ c.requires.mentions in
    subst (λ ms. Knows known.facts (seen ms)) (sym told) c.requires.facts

pub returns : goal.returns
returns c are none =
    let known = c.args.known.now in
    let told = ap (all_shown known.facts.index.paths) c.deref.ensures.value ∙ c.requires.mentions in
    c.in_ok-errors.ensures ∙ ap (λ ms. map message_of (all_types (seen ms) ms)) told ∙ ap (map message_of) (kinds_told (trees_of known.terms.now) are none)
