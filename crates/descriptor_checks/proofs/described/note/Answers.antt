use Rattle.std.proofs.Common.{[], ◌++◌, get_or, sym, ◌∙◌, subst}
use Rattle.acpi_state.specs.Objects.{lookup}
use Rattle.acpi_names.specs.Shown.{shown, written_as}
use Rattle.acpi_names.specs.Tables.{Tabled}
use Rattle.descriptor_fields.specs.Nodes.{at_node}
use Rattle.descriptor_checks.specs.Resolved.{described_by}
use Rattle.descriptor_checks.proofs.Placing.{declares_none, declares_some, more_noted}
use Rattle.descriptor_checks.proofs.described.note.Goals as goal

pub returns-in_ok-put-in-Some : goal.returns-in_ok-put-in-Some
returns-in_ok-put-in-Some g c said before says tabled =
    let paths = c.args.index.now.paths in
    let new = c.put.new.table.items in
    subst (λ m. Tabled paths new (lookup (before ++ described_by said (shown paths m)))) (sym c.in-Declares.is)
    (declares_some paths new before (written_as c.in-Declares.name) (get_or paths c.in-Declares.scope []) _ c.in-Some.descriptor (at_node said c.in-Declares.at.id) (c.in-Some.ensures ∙ says c.in-Declares.at.id) c.declared_at.ensures.path
    (more_noted paths c.args.table.now.items new c.declared_at.result c.in-Some.descriptor before c.len-count.ensures.distinct c.declared_at.ensures.within c.in_ok-put-in-Some.ensures.put tabled))

pub returns-in-None : goal.returns-in-None
returns-in-None g c said before says tabled =
    let paths = c.args.index.now.paths in
    subst (λ m. Tabled paths c.args.table.now.items (lookup (before ++ described_by said (shown paths m)))) (sym c.in-Declares.is)
    (declares_none paths c.args.table.now.items before (written_as c.in-Declares.name) (get_or paths c.in-Declares.scope []) (at_node said c.in-Declares.at.id) (c.in-None.ensures ∙ says c.in-Declares.at.id) tabled)
