use Rattle.std.proofs.Common.{◌≡◌, true, false, sym, ap, ◌∙◌, subst}
use Rattle.asl_tree.specs.View.{trees_of}
use Rattle.term_plans.specs.Plans.{plans_of}
use Rattle.asl_numbers.specs.Numbers.{numbered_all}
use Rattle.acpi_names.specs.Terms.{are_terms}
use Rattle.name_notes.specs.Notes.{mentioned_notes, name_notes}
use Rattle.named_sessions.specs.Shaped.{AreNamed}
use Rattle.named_sessions.proofs.Terms.{formed_terms}
use Rattle.region_checks.specs.Regions.{region_errors}
use Rattle.type_checks.specs.Types.{wrong_types}
use Rattle.descriptor_fields.specs.Declaring.{declaring, names_descriptors, stripped}
use Rattle.descriptor_checks.specs.Resolved.{checked_terms, mentions_of, names_of}
use Rattle.descriptor_checks.specs.Resolves.{AreUses}
use Rattle.descriptor_checks.specs.Told.{checked_trees, owners_of}
use Rattle.descriptor_shapes.proofs.Blocks.{unnamed_checked, unnamed_resolved, unnamed_owners}
use Rattle.block_checks.specs.Present.{IsPresenceOf}
use Rattle.block_checks.proofs.Named.{unnamed_named}
use Rattle.block_checks.proofs.names.named_terms.Goals as goal

pub ask-requires-clause-terms : goal.ask-requires-clause-terms
ask-requires-clause-terms g c =
    ap (λ ns. are_terms (trees_of ns)) c.deref-then-not-present.ensures.value ∙ ap are_terms (c.in_ok-own.ensures.trees ∙ ap (numbered_all 0) c.requires.0)
    ∙ formed_terms (Unit {0}) AreNamed (Unit {0}) (Unit {0}) (numbered_all 0 g.ps) c.requires.1

pub ask-requires-clause-present : goal.ask-requires-clause-present
ask-requires-clause-present g c =
    let is = c.present_in-present.ensures in
    subst (λ ps. IsPresenceOf ps c.present_in-present.result) (ap plans_of c.deref.ensures.value ∙ sym c.in_ok-own.ensures.plans ∙ ap plans_of (sym c.deref-then-not-present.ensures.value))
    (record { switches = is.switches; fields = is.fields; lists = is.lists; forms = is.forms; nodes = is.nodes })

pub ask-requires-clause-numbered : goal.ask-requires-clause-numbered
ask-requires-clause-numbered g c =
    let same = c.deref-then-not-present.ensures.value in
    ap trees_of same ∙ c.in_ok-own.ensures.trees ∙ ap (numbered_all 0) (sym c.in_ok-own.ensures.plans) ∙ ap (λ ns. numbered_all 0 (plans_of ns)) (sym same)

pub returns-then-not-present-clause-present : goal.returns-then-not-present-clause-present
returns-then-not-present-clause-present g c =
    let is = c.present_in-present.ensures in
    subst (λ ps. IsPresenceOf ps c.present_in-present.result) (ap plans_of c.deref.ensures.value ∙ sym c.in_ok-own.ensures.plans)
    (record { switches = is.switches; fields = is.fields; lists = is.lists; forms = is.forms; nodes = is.nodes })

pub returns-clause-present : goal.returns-clause-present
returns-clause-present g c =
    let is = c.present_in-present-2.ensures in
    subst (λ ns. IsPresenceOf (plans_of ns) c.present_in-present-2.result) c.deref-3.ensures.value
    (record { switches = is.switches; fields = is.fields; lists = is.lists; forms = is.forms; nodes = is.nodes })

pub returns-then-not-present-clause-plans : goal.returns-then-not-present-clause-plans
returns-then-not-present-clause-plans g c =
    let none : names_descriptors g.ps ≡ false = ap names_descriptors (sym c.requires.0) ∙ ap (λ ns. names_descriptors (plans_of ns)) (sym c.deref.ensures.value) ∙ sym c.present_in-present.ensures.descriptors ∙ c.if-not-present.true in
    c.in_ok-own.ensures.plans ∙ c.requires.0 ∙ sym (unnamed_resolved g.ps none)

pub returns-then-not-present-clause-trees : goal.returns-then-not-present-clause-trees
returns-then-not-present-clause-trees g c =
    let none : names_descriptors g.ps ≡ false = ap names_descriptors (sym c.requires.0) ∙ ap (λ ns. names_descriptors (plans_of ns)) (sym c.deref.ensures.value) ∙ sym c.present_in-present.ensures.descriptors ∙ c.if-not-present.true in
    c.in_ok-own.ensures.trees ∙ ap (numbered_all 0) (c.requires.0 ∙ sym (unnamed_resolved g.ps none))

pub returns-then-not-present-clause-names : goal.returns-then-not-present-clause-names
returns-then-not-present-clause-names g c =
    let none : names_descriptors g.ps ≡ false = ap names_descriptors (sym c.requires.0) ∙ ap (λ ns. names_descriptors (plans_of ns)) (sym c.deref.ensures.value) ∙ sym c.present_in-present.ensures.descriptors ∙ c.if-not-present.true in
    let are : are_terms (numbered_all 0 g.ps) ≡ true = formed_terms (Unit {0}) AreNamed (Unit {0}) (Unit {0}) (numbered_all 0 g.ps) c.requires.1 in
    unnamed_named g.ps none are c.in_ok-told.told.names (trees_of c.deref-then-not-present.result.now) (ap trees_of c.deref-then-not-present.ensures.value ∙ c.in_ok-own.ensures.trees ∙ ap (numbered_all 0) c.requires.0) c.in_ok-told.ensures.names

pub returns-then-not-present-clause-regions : goal.returns-then-not-present-clause-regions
returns-then-not-present-clause-regions g c =
    let none : names_descriptors g.ps ≡ false = ap names_descriptors (sym c.requires.0) ∙ ap (λ ns. names_descriptors (plans_of ns)) (sym c.deref.ensures.value) ∙ sym c.present_in-present.ensures.descriptors ∙ c.if-not-present.true in
    let width = c.args.width in
    c.in_ok-told.ensures.regions ∙ ap (λ ns. region_errors width (trees_of ns) (plans_of ns)) c.deref-then-not-present.ensures.value
    ∙ ap (λ ts. region_errors width ts (plans_of c.in_ok-own.own.items)) (c.in_ok-own.ensures.trees ∙ ap (numbered_all 0) c.requires.0)
    ∙ ap (region_errors width (numbered_all 0 g.ps)) (c.in_ok-own.ensures.plans ∙ c.requires.0)
    ∙ ap (λ qs. region_errors width (numbered_all 0 qs) qs) (sym (unnamed_checked g.ps none))

pub returns-then-not-present-clause-types : goal.returns-then-not-present-clause-types
returns-then-not-present-clause-types g c =
    let none : names_descriptors g.ps ≡ false = ap names_descriptors (sym c.requires.0) ∙ ap (λ ns. names_descriptors (plans_of ns)) (sym c.deref.ensures.value) ∙ sym c.present_in-present.ensures.descriptors ∙ c.if-not-present.true in
    c.in_ok-told.ensures.types ∙ ap (λ ns. wrong_types (trees_of ns) (plans_of ns)) c.deref-then-not-present.ensures.value
    ∙ ap (λ ts. wrong_types ts (plans_of c.in_ok-own.own.items)) (c.in_ok-own.ensures.trees ∙ ap (numbered_all 0) c.requires.0)
    ∙ ap (wrong_types (numbered_all 0 g.ps)) (c.in_ok-own.ensures.plans ∙ c.requires.0)
    ∙ ap (λ qs. wrong_types (numbered_all 0 qs) qs) (sym (unnamed_checked g.ps none))

pub returns-then-not-present-clause-notes : goal.returns-then-not-present-clause-notes
returns-then-not-present-clause-notes g c =
    let none : names_descriptors g.ps ≡ false = ap names_descriptors (sym c.requires.0) ∙ ap (λ ns. names_descriptors (plans_of ns)) (sym c.deref.ensures.value) ∙ sym c.present_in-present.ensures.descriptors ∙ c.if-not-present.true in
    c.in_ok-told.ensures.notes ∙ ap (λ ns. name_notes (trees_of ns)) c.deref-then-not-present.ensures.value
    ∙ ap name_notes (c.in_ok-own.ensures.trees ∙ ap (numbered_all 0) c.requires.0)
    ∙ ap (λ os. mentioned_notes (names_of g.ps) os (mentions_of g.ps)) (sym (unnamed_owners g.ps none))
    ∙ ap (λ qs. mentioned_notes (names_of qs) (owners_of (declaring g.ps)) (mentions_of qs)) (sym (unnamed_checked g.ps none))

pub ask_described-requires : goal.ask_described-requires
ask_described-requires g c =
    let is = c.in_ok-terms.ensures in
    let same = c.deref-2.ensures.value in (
      ap plans_of same ∙ is.terms ∙ ap checked_terms c.requires.0,
      (ap trees_of same ∙ is.trees ∙ ap checked_trees c.requires.0, (c.requires.1, subst (λ qs. AreUses qs c.in_ok-terms.field-0.uses) c.requires.0 is.uses)),
    )

pub returns-clause-plans : goal.returns-clause-plans
returns-clause-plans g c =
    c.in_ok-terms-2.ensures.plans ∙ c.in_ok-stripped.ensures ∙ ap stripped (c.in_ok-terms.ensures.terms ∙ ap checked_terms c.requires.0)

pub returns-clause-trees : goal.returns-clause-trees
returns-clause-trees g c =
    c.in_ok-terms-2.ensures.trees ∙ ap (numbered_all 0) (c.in_ok-stripped.ensures ∙ ap stripped (c.in_ok-terms.ensures.terms ∙ ap checked_terms c.requires.0))
