use Rattle.std.proofs.Common.{[], get_or, sym, ap, ◌∙◌}
use Rattle.std.specs.Prelude.{if◌then◌else◌}
use Rattle.acpi_names.specs.Errors.{final}
use Rattle.name_entries.specs.Entries.{end_kind}
use Rattle.name_entries.specs.declared.kind.ObjectType.TheVariants as N
use Rattle.type_checks.proofs.names.kind_there.Goals as goal

pub returns-then-is_named_at : goal.returns-then-is_named_at
returns-then-is_named_at g c =
    let paths = c.args.facts.now.index.paths in
    let path = get_or paths c.args.number [] in
    c.kind_at.ensures paths ∙ ap end_kind c.end.ensures
    ∙ sym (ap (λ b. if b then end_kind (final g.whole.known path) else N.Data) (sym c.is_named_at.ensures ∙ c.if-is_named_at.true))

pub returns-else-is_named_at : goal.returns-else-is_named_at
returns-else-is_named_at g c =
    let path = get_or c.args.facts.now.index.paths c.args.number [] in
    sym (ap (λ b. if b then end_kind (final g.whole.known path) else N.Data) (sym c.is_named_at.ensures ∙ c.if-is_named_at.false))
