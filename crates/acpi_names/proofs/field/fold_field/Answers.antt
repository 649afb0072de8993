use Rattle.std.proofs.Common.{[], ◌++◌, get_or, sym, ◌∙◌}
use Rattle.asl_tree.specs.View.{trees_of}
use Rattle.acpi_names.specs.Mentions.{item_mentions}
use Rattle.acpi_names.specs.Parts.{listed_items}
use Rattle.acpi_names.specs.Shown.{spot_as}
use Rattle.acpi_names.specs.Walked.{field_mentions}
use Rattle.acpi_names.proofs.FoldTelling.{leads_as, leads_here, told_as, told_later, told_value, told_no_more}
use Rattle.acpi_names.proofs.Telling.{tells_then}
use Rattle.acpi_names.proofs.Units.{field_declares, field_undeclared, field_told, field_untold}
use Rattle.acpi_names.proofs.field.fold_field.Goals as goal

pub returns-then-not-are_items-clause-names : goal.returns-then-not-are_items-clause-names
returns-then-not-are_items-clause-names c =
    leads_as c.args.index.now.paths c.args.index.now.paths c.args.index.now.named.items c.args.index.now.named.items _ _
    (λ d. field_undeclared c.args.over (trees_of c.args.args.now) (trees_of c.args.body.now) (get_or c.args.index.now.paths c.args.scope []) d (sym c.are_items.ensures ∙ c.if-not-are_items.true))
    (leads_here c.args.index.now.paths c.args.index.now.named.items)

pub returns-then-not-are_items-clause-told : goal.returns-then-not-are_items-clause-told
returns-then-not-are_items-clause-told c op =
    told_as c.args.index.now.paths c.args.index.now.paths c.args.index.now.named.items c.args.out.now.items c.args.out.now.items _ _
    (λ d agrees. field_untold c.args.over (spot_as c.args.here) op (trees_of c.args.args.now) (trees_of c.args.body.now) (get_or c.args.index.now.paths c.args.scope []) d (sym c.are_items.ensures ∙ c.if-not-are_items.true))
    (told_no_more c.args.index.now.paths c.args.index.now.named.items c.args.out.now.items)

pub returns-clause-names : goal.returns-clause-names
returns-clause-names c =
    leads_as c.args.index.now.paths c.fold_items.new.index.paths c.args.index.now.named.items c.fold_items.new.index.named.items _ _
    (λ d. field_declares c.args.over (trees_of c.args.args.now) (trees_of c.args.body.now) (get_or c.args.index.now.paths c.args.scope []) d (sym c.are_items.ensures ∙ c.if-not-are_items.false)) c.in_ok-fold_items.ensures.names

pub returns-clause-told : goal.returns-clause-told
returns-clause-told c op =
    let paths = c.args.index.now.paths in
    let a = c.args.out.now.items in
    let e = c.fold_items.new.out.items in
    told_as paths c.fold_items.new.index.paths c.args.index.now.named.items a e _ _
    (λ d agrees. field_told c.args.over (spot_as c.args.here) op (trees_of c.args.args.now) (trees_of c.args.body.now) (get_or paths c.args.scope []) d (sym c.are_items.ensures ∙ c.if-not-are_items.false))
    (told_later paths paths c.fold_items.new.index.paths c.args.index.now.named.items a e _ c.in_ok-fold_items.ensures.others
    (told_value paths c.args.index.now.named.items a e c.args.scope (λ s. field_mentions c.args.over (spot_as c.args.here) (trees_of c.args.args.now) s ++ item_mentions (listed_items (trees_of c.args.body.now)) s) c.requires.scope_in
    (tells_then a c.field_uses.new.out.items e _ _ c.in_ok-field_uses.ensures c.in_ok-fold_items.ensures.told)))
