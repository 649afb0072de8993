use Rattle.std.proofs.Common.{[], ◌++◌, map, sym, ap, ◌∙◌, subst}
use Rattle.std.proofs.lemmas.List.{map-append}
use Rattle.acpi_names.specs.Mentions.{after_all, all_errors, all_types, block_mentions}
use Rattle.acpi_names.specs.Parts.{Agrees}
use Rattle.acpi_names.specs.Shown.{all_shown}
use Rattle.acpi_names.specs.Tables.{Tabled}
use Rattle.acpi_names.specs.Terms.{are_terms}
use Rattle.asl_tree.specs.View.{trees_of}
use Rattle.asl_meaning.specs.Declarations.{nothing_declared}
use Rattle.name_checks.specs.Messages.{message_of}
use Rattle.name_kinds.specs.Facts.{Knows}
use Rattle.name_kinds.specs.Seen.{seen}
use Rattle.descriptor_fields.specs.Declaring.{declaring}
use Rattle.descriptor_checks.specs.Resolved.{checked_terms, mentions_of, names_of, table_of}
use Rattle.descriptor_checks.specs.Told.{all_below, fields_wrong, kinds_wrong, names_wrong}
use Rattle.descriptor_checks.proofs.Naming.{mentions_are, names_told, kinds_told, seen_declared, sorted_is}
use Rattle.descriptor_checks.proofs.Telling.{declared_kept}
use Rattle.descriptor_checks.proofs.check.told_of.Goals as goal

pub described-requires-clause-names : goal.described-requires-clause-names
described-requires-clause-names g c =
    let known = c.args.known.now in seen_declared known.facts.index.paths known.facts.index.named.items (trees_of known.terms.now) c.requires.1.1.1.0.facts.agrees

pub below_errors-requires : goal.below_errors-requires
below_errors-requires g c =
    let known = c.args.known.now in
    let paths = known.facts.index.paths in
    let knows = c.requires.1.1.1.0 in (
      subst (λ ts. Agrees paths known.facts.index.named.items (after_all (block_mentions ts [] nothing_declared) nothing_declared)) c.requires.1.0 knows.facts.agrees,
      ap (λ ms. after_all ms nothing_declared) (ap (all_shown paths) c.deref-5.ensures.value ∙ knows.mentions ∙ ap (λ ts. block_mentions ts [] nothing_declared) c.requires.1.0),
    )

pub name_faults-requires : goal.name_faults-requires
name_faults-requires g c =
    let known = c.args.known.now in
    let paths = known.facts.index.paths in
    let ps = checked_terms g.ps in
    let knows = c.requires.1.1.1.0 in
    let tabled = subst (λ qs. Tabled paths c.in_ok-table.table.items (table_of qs)) c.requires.0 c.in_ok-table.ensures in
    let sorted = sorted_is paths known.facts.index.named.items (trees_of known.terms.now) ps _ _ known.mentions.items c.in_ok-names.field-0 c.requires.1.0 knows.facts.agrees knows.mentions c.deref-3.ensures.value
    (subst (λ t. Tabled paths t (table_of ps)) (sym c.deref-2.ensures.value) tabled) c.in_ok-names.ensures in (
      subst (λ ts. Knows known.facts (seen (block_mentions ts [] nothing_declared))) c.requires.1.0 knows.facts,
      ap (λ ms. after_all ms nothing_declared) (ap (all_shown paths) c.deref-6.ensures.value ∙ sorted.names) ∙ declared_kept (names_of ps) (table_of ps) (mentions_of ps) nothing_declared,
    )

pub kind_faults-requires : goal.kind_faults-requires
kind_faults-requires g c = subst (λ ts. Knows c.args.known.now.facts (seen (block_mentions ts [] nothing_declared))) c.requires.1.0 c.requires.1.1.1.0.facts

pub returns-clause-names : goal.returns-clause-names
returns-clause-names g c =
    let known = c.args.known.now in
    let paths = known.facts.index.paths in
    let ps = checked_terms g.ps in
    let knows = c.requires.1.1.1.0 in
    let tabled = subst (λ qs. Tabled paths c.in_ok-table.table.items (table_of qs)) c.requires.0 c.in_ok-table.ensures in
    let sorted = sorted_is paths known.facts.index.named.items (trees_of known.terms.now) ps _ _ known.mentions.items c.in_ok-names.field-0 c.requires.1.0 knows.facts.agrees knows.mentions c.deref-3.ensures.value
    (subst (λ t. Tabled paths t (table_of ps)) (sym c.deref-2.ensures.value) tabled) c.in_ok-names.ensures in
    let uses = c.requires.1.1.1.1 in
    let wrong = names_wrong ps in
    let names = c.in_ok-names.field-0.names.items in
    let own = names_told (trees_of known.terms.now) ps c.requires.1.0 (ap are_terms c.requires.1.0 ∙ c.requires.1.1.0) _ _ _ (all_shown paths names) sorted.names
    (c.into_vec-of_names.ensures ∙ c.in_ok-misnamed.ensures ∙ ap (λ ns. map message_of (all_errors (seen (mentions_of ps)) (all_shown paths ns) nothing_declared)) c.deref-6.ensures.value)
    (c.in_ok-below.ensures (table_of ps) (subst (λ t. Tabled paths t (table_of ps)) (sym c.deref-4.ensures.value) tabled)
    ∙ ap (λ ms. map message_of (all_below (table_of ps) ms)) (ap (all_shown paths) c.deref-5.ensures.value ∙ mentions_are (trees_of known.terms.now) ps (all_shown paths known.mentions.items) c.requires.1.0 knows.mentions))
    c.in_ok-append.ensures.items in
    c.in_ok-append-2.ensures.items ∙ ap (λ ms. ms ++ c.args.uses.wrong.items) own ∙ ap (λ ms. map message_of wrong ++ ms) uses.wrong ∙ sym (map-append message_of wrong (fields_wrong (declaring g.ps)))

pub returns-clause-kinds : goal.returns-clause-kinds
returns-clause-kinds g c =
    let known = c.args.known.now in
    let paths = known.facts.index.paths in
    let ps = checked_terms g.ps in
    let knows = c.requires.1.1.1.0 in
    let tabled = subst (λ qs. Tabled paths c.in_ok-table.table.items (table_of qs)) c.requires.0 c.in_ok-table.ensures in
    let sorted = sorted_is paths known.facts.index.named.items (trees_of known.terms.now) ps _ _ known.mentions.items c.in_ok-names.field-0 c.requires.1.0 knows.facts.agrees knows.mentions c.deref-3.ensures.value
    (subst (λ t. Tabled paths t (table_of ps)) (sym c.deref-2.ensures.value) tabled) c.in_ok-names.ensures in
    let kinds = c.in_ok-names.field-0.kinds.items in
    let own = kinds_told (trees_of known.terms.now) ps c.requires.1.0 (ap are_terms c.requires.1.0 ∙ c.requires.1.1.0) _ _ _ (all_shown paths kinds) sorted.kinds
    (c.into_vec-of_kinds.ensures ∙ c.in_ok-mistyped.ensures ∙ ap (λ ns. map message_of (all_types (seen (mentions_of ps)) (all_shown paths ns))) c.deref-7.ensures.value)
    sorted.faults c.in_ok-append-3.ensures.items in
    c.in_ok-append-4.ensures.items ∙ ap (λ ms. ms ++ c.args.uses.broken.items) own ∙ ap (λ ms. kinds_wrong ps ++ ms) c.requires.1.1.1.1.broken

pub returns-clause-table : goal.returns-clause-table
returns-clause-table g c = subst (λ qs. Tabled c.args.known.now.facts.index.paths c.in_ok-table.table.items (table_of qs)) c.requires.0 c.in_ok-table.ensures
