use Rattle.std.proofs.Common.{sym, ap, ◌∙◌, subst}
use Rattle.acpi_names.specs.Shown.{all_shown}
use Rattle.acpi_names.specs.Tables.{Tabled}
use Rattle.asl_tree.specs.View.{trees_of}
use Rattle.asl_meaning.specs.Declarations.{declarations}
use Rattle.asl_numbers.specs.Numbers.{numbered_all}
use Rattle.term_plans.specs.Plans.{plans_of}
use Rattle.descriptor_checks.specs.Fields.{AreFields}
use Rattle.descriptor_checks.specs.Resolved.{names_of, table_of}
use Rattle.descriptor_checks.proofs.Naming.{mentions_are, names_are}
use Rattle.descriptor_checks.proofs.check.fields_in.Goals as goal

pub returns : goal.returns
returns c =
    let paths = c.in_ok-index.field-0.index.paths in
    let named = c.in_ok-index.field-0.index.named.items in
    let trees = trees_of c.args.terms.now in
    let ps = plans_of c.args.terms.now in
    subst (AreFields paths (names_of ps) (table_of ps) c.in_ok-fields.fields) (ap (all_shown paths) c.deref-3.ensures.value ∙ mentions_are trees ps (all_shown paths c.in_ok-index.field-0.mentions.items) c.requires.numbers c.in_ok-index.ensures.told)
    (c.in_ok-fields.ensures (declarations (numbered_all 0 ps)) (table_of ps) (names_are paths named trees ps c.requires.numbers c.in_ok-index.ensures.names) (subst (λ t. Tabled paths t (table_of ps)) (sym c.deref-2.ensures.value) c.in_ok-table.ensures))
