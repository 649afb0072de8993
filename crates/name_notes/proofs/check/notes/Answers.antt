use Rattle.std.proofs.Common.{[], refl, sym, ap, ◌∙◌, subst}
use Rattle.asl_tree.specs.View.{trees_of}
use Rattle.asl_meaning.specs.Declarations.{is_named, nothing_declared}
use Rattle.acpi_names.specs.Mentions.{after_all, block_mentions}
use Rattle.acpi_names.specs.Parts.{Agrees}
use Rattle.acpi_names.specs.Shown.{all_shown}
use Rattle.acpi_names.proofs.Mentions.{after_block}
use Rattle.name_kinds.specs.Seen.{seen}
use Rattle.name_notes.specs.Notes.{mentioned_notes}
use Rattle.name_notes.proofs.check.notes.Goals as goal

pub notes_of-requires : goal.notes_of-requires
notes_of-requires c =
    let index = c.args.known.now.facts.index in
    let told = ap (all_shown index.paths) c.deref.ensures.value ∙ c.requires.mentions in
    (c.requires.facts.flags, (subst (λ ms. Agrees index.paths index.named.items (seen ms).all) (sym told) c.requires.facts.agrees, refl))

pub returns : goal.returns
returns c =
    let terms = trees_of c.args.known.now.terms.now in
    let told = ap (all_shown c.args.known.now.facts.index.paths) c.deref.ensures.value ∙ c.requires.mentions in
    c.in_ok-out.ensures
    ∙ ap (λ ms. mentioned_notes (is_named (after_all ms nothing_declared)) [] ms) told
    ∙ ap (λ d. mentioned_notes (is_named d) [] (block_mentions terms [] nothing_declared)) (after_block terms [] nothing_declared)
