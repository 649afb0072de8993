use Rattle.std.proofs.Common.{[], refl, sym, ap, ◌∙◌, subst}
use Rattle.asl_tree.specs.View.{trees_of}
use Rattle.asl_meaning.specs.Declarations.{declarations, is_named, nothing_declared}
use Rattle.term_plans.specs.Plans.{plans_of}
use Rattle.acpi_names.specs.Mentions.{after_all, block_mentions}
use Rattle.acpi_names.specs.Parts.{Agrees}
use Rattle.acpi_names.specs.Shown.{all_shown}
use Rattle.acpi_names.specs.Tables.{Tabled}
use Rattle.acpi_names.specs.Terms.{are_terms}
use Rattle.acpi_names.proofs.Mentions.{after_block}
use Rattle.name_kinds.specs.Seen.{seen}
use Rattle.name_notes.specs.Notes.{mentioned_notes}
use Rattle.region_checks.specs.Regions.{region_errors}
use Rattle.type_checks.specs.Types.{wrong_types}
use Rattle.descriptor_fields.specs.Declaring.{declaring}
use Rattle.descriptor_checks.specs.Fields.{paths_at}
use Rattle.descriptor_checks.specs.Resolved.{checked_terms, table_of}
use Rattle.descriptor_checks.specs.Told.{checked_trees, owners_of}
use Rattle.descriptor_shapes.proofs.Blocks.{checked_are_terms}
use Rattle.block_outcomes.specs.Joined.{first_told}
use Rattle.block_checks.proofs.Owners.{notes_numbered, are_numbered}
use Rattle.block_checks.proofs.names.ask_described.Goals as goal

pub told_of-requires : goal.told_of-requires
told_of-requires g c =
    let same = c.in_ok-known.ensures.terms in
    (ap plans_of same ∙ c.requires.0, (ap trees_of same ∙ c.requires.1.0, (checked_are_terms 0 g.ps c.requires.1.1.0, (c.in_ok-known.ensures.known, c.requires.1.1.1))))

pub region_faults-requires-clause-terms : goal.region_faults-requires-clause-terms
region_faults-requires-clause-terms g c = ap (λ ns. are_terms (trees_of ns)) c.in_ok-known.ensures.terms ∙ ap are_terms c.requires.1.0 ∙ checked_are_terms 0 g.ps c.requires.1.1.0

pub wrong_types-requires-clause-terms : goal.wrong_types-requires-clause-terms
wrong_types-requires-clause-terms g c = ap (λ ns. are_terms (trees_of ns)) c.in_ok-known.ensures.terms ∙ ap are_terms c.requires.1.0 ∙ checked_are_terms 0 g.ps c.requires.1.1.0

pub notes_of-requires : goal.notes_of-requires
notes_of-requires g c =
    let known = c.in_ok-known.known in
    let index = known.facts.index in
    let knows = c.in_ok-known.ensures.known in
    let shown = ap (all_shown index.paths) c.deref.ensures.value ∙ knows.mentions in
    (knows.facts.flags, (subst (λ ms. Agrees index.paths index.named.items (seen ms).all) (sym shown) knows.facts.agrees, refl))

pub without_or_told-requires : goal.without_or_told-requires
without_or_told-requires g c =
    let told = c.in_ok-names.ensures in (
      ap trees_of c.in_ok-known.ensures.terms ∙ c.requires.1.0,
      (
        c.in_ok-known.ensures.known,
        (
          subst (λ t. Tabled c.in_ok-known.known.facts.index.paths t (table_of (checked_terms g.ps))) (sym c.deref-3.ensures.value) told.table,
          (
            c.requires.1.1.0,
            c.first_told-told.ensures ∙ ap (λ ms. first_told ms c.from_vec-2.result) (c.from_vec.ensures ∙ told.names) ∙ ap (first_told _) (c.from_vec-2.ensures ∙ told.kinds),
          ),
        ),
      ),
    )

pub returns-clause-regions : goal.returns-clause-regions
returns-clause-regions g c =
    c.in_ok-regions.ensures.told ∙ ap (λ ns. region_errors c.args.width (trees_of ns) (plans_of ns)) c.in_ok-known.ensures.terms
    ∙ ap (λ ts. region_errors c.args.width ts (plans_of c.args.terms.now)) c.requires.1.0 ∙ ap (region_errors c.args.width (checked_trees g.ps)) c.requires.0

pub returns-clause-types : goal.returns-clause-types
returns-clause-types g c =
    c.in_ok-types.ensures ∙ ap (λ ns. wrong_types (trees_of ns) (plans_of ns)) c.in_ok-known.ensures.terms
    ∙ ap (λ ts. wrong_types ts (plans_of c.args.terms.now)) c.requires.1.0 ∙ ap (wrong_types (checked_trees g.ps)) c.requires.0

pub returns-clause-notes : goal.returns-clause-notes
returns-clause-notes g c =
    let known = c.in_ok-known.known in
    let facts = known.facts in
    let paths = facts.index.paths in
    let knows = c.in_ok-known.ensures.known in
    let terms = trees_of known.terms.now in
    let mentions = block_mentions terms [] nothing_declared in
    let owners = owners_of (declaring g.ps) in
    let shown = ap (all_shown paths) c.deref.ensures.value ∙ knows.mentions in
    let also = ap (paths_at paths) (c.deref-2.ensures.value ∙ c.in_ok-names.ensures.owners) in
    let trees = ap trees_of c.in_ok-known.ensures.terms ∙ c.requires.1.0 in
    c.in_ok-noted.ensures
    ∙ ap (λ ms. mentioned_notes (is_named (after_all ms nothing_declared)) (paths_at paths c.deref-2.result.now) ms) shown
    ∙ ap (λ os. mentioned_notes (is_named (after_all mentions nothing_declared)) os mentions) also
    ∙ notes_numbered paths (is_named (after_all mentions nothing_declared)) owners mentions (are_numbered paths facts.index.named.items (after_all mentions nothing_declared) knows.facts.agrees mentions nothing_declared refl)
    ∙ ap (λ d. mentioned_notes (is_named d) owners mentions) (after_block terms [] nothing_declared)
    ∙ ap (λ ts. mentioned_notes (is_named (declarations ts)) owners (block_mentions ts [] nothing_declared)) trees
