use Rattle.std.proofs.Common.{List, [], Option, None, get_or, refl, sym, ap, ◌∙◌, subst}
use Rattle.asl_tree.specs.View.{trees_of}
use Rattle.asl_tree.specs.declared.term.Node.{Node}
use Rattle.asl_meaning.specs.Declarations.{declarations, is_named, nothing_declared}
use Rattle.acpi_names.specs.Mentions.{block_mentions}
use Rattle.acpi_names.specs.Parts.{Agrees}
use Rattle.acpi_names.specs.Paths.{path_with}
use Rattle.acpi_names.specs.Shown.{all_shown}
use Rattle.acpi_names.specs.declared.index.Index.{Index}
use Rattle.acpi_names.proofs.Mentions.{after_block}
use Rattle.name_kinds.specs.Facts.{Knows}
use Rattle.name_kinds.specs.Seen.{seen}
use Rattle.name_kinds.proofs.Seeing.{block_seen}
use Rattle.name_entries.specs.Descriptors.{AreFlagged, descriptors_among}
use Rattle.name_entries.specs.Entries.{described, described_by, entry_said, entry_in}
use Rattle.name_entries.specs.Placed.{no_places, placed_all}
use Rattle.name_entries.specs.Uses.{denoted_in}
use Rattle.name_entries.specs.declared.description.Description.{Description}
use Rattle.name_entries.proofs.Describing.{said_each, entry_said_in}
use Rattle.name_entries.proofs.entries.entries_of.Goals as goal

pub described_all-requires : goal.described_all-requires
described_all-requires c =
    let known = c.in_ok-known.known in
    let told = ap (all_shown known.facts.index.paths) c.deref.ensures.value ∙ c.in_ok-known.ensures.known.mentions in
    (subst (λ ms. Knows known.facts (seen ms)) (sym told) c.in_ok-known.ensures.known.facts, refl)

pub returns-clause-names : goal.returns-clause-names
returns-clause-names c =
    let known = c.in_ok-known.known in
    let program = trees_of known.terms.now in
    subst (λ (i : Index). Agrees i.paths i.named.items (declarations (trees_of c.args.terms.now))) (sym c.into_names-index.ensures.index)
    (λ path. c.in_ok-known.ensures.known.facts.agrees path ∙ ap (λ d. is_named d path) (after_block program [] nothing_declared)
    ∙ ap (λ ns. is_named (declarations (trees_of ns)) path) c.in_ok-known.ensures.terms)

pub returns-clause-uses : goal.returns-clause-uses
returns-clause-uses c node =
    ap (λ (i : Index). path_with i.paths (get_or c.in_ok-uses.uses.items node None)) c.into_names-index.ensures.index ∙ c.in_ok-uses.ensures node
    ∙ ap (λ ns. denoted_in (trees_of ns) node) c.in_ok-known.ensures.terms

pub returns-clause-entries : goal.returns-clause-entries
returns-clause-entries c are number =
    let known = c.in_ok-known.known in
    let paths = known.facts.index.paths in
    let program = trees_of c.args.terms.now in
    let said = c.in_ok-said.said.items in
    let told = ap (all_shown paths) c.deref.ensures.value ∙ c.in_ok-known.ensures.known.mentions ∙ ap (λ ns. block_mentions (trees_of ns) [] nothing_declared) c.in_ok-known.ensures.terms in
    let nodes = descriptors_among program in
    let flagged = subst (λ flags. AreFlagged flags nodes) (sym c.deref-2.ensures.value)
    (subst (λ (ns : List Node). AreFlagged c.in_ok-flags.flags.items (descriptors_among (trees_of ns))) c.in_ok-known.ensures.terms c.in_ok-flags.ensures) in
    c.in_ok-entries.ensures number
    ∙ ap (λ (ds : List (Option Description)). entry_said paths number (get_or ds number None)) c.deref-3.ensures.value
    ∙ ap (entry_said paths number)
    (said_each paths said (described program) c.in_ok-said.ensures.size
    (λ n lt. c.in_ok-said.ensures.each nodes flagged n lt ∙ ap (λ ms. described_by nodes (seen ms) (placed_all ms no_places) (get_or paths n [])) told
    ∙ ap (λ w. described_by nodes w (placed_all (block_mentions program [] nothing_declared) no_places) (get_or paths n [])) (block_seen program are)) number)
    ∙ entry_said_in paths number (described program)
    ∙ ap (λ (i : Index). entry_in program i.paths number) (sym c.into_names-index.ensures.index)
