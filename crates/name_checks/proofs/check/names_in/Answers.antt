use Rattle.std.proofs.Common.{[], sym, ap, ◌∙◌, subst}
use Rattle.asl_tree.specs.View.{trees_of}
use Rattle.asl_meaning.specs.Declarations.{declarations, is_named, nothing_declared}
use Rattle.acpi_names.specs.Paths.{number_in}
use Rattle.acpi_names.specs.Parts.{Agrees}
use Rattle.acpi_names.specs.Tables.{entry_at}
use Rattle.acpi_names.specs.declared.index.Index.{Index}
use Rattle.acpi_names.proofs.Mentions.{after_block}
use Rattle.name_checks.proofs.check.names_in.Goals as goal

pub returns-clause-names : goal.returns-clause-names
returns-clause-names c =
    let program = trees_of c.args.known.terms.now in
    subst (λ (i : Index). Agrees i.paths i.named.items (declarations program)) (sym c.into_names-index.ensures.index)
    (λ path. c.requires.facts.agrees path ∙ ap (λ d. is_named d path) (after_block program [] nothing_declared))

pub returns-clause-calls : goal.returns-clause-calls
returns-clause-calls c path =
    let facts = c.args.known.facts in
    let made = c.into_names-index in
    ap (λ (i : Index). entry_at made.result.1.items (number_in i.paths path)) made.ensures.index
    ∙ ap (λ calls. entry_at calls.items (number_in facts.index.paths path)) made.ensures.calls
    ∙ c.requires.facts.notes.first path
