use Rattle.std.proofs.Common.{◌≡◌, [], subst}
use Rattle.std.specs.Prelude.{IfOk, OnOk, IfErr}
use Rattle.acpi_state.specs.Objects.{lookup}
use Rattle.asl_tree.specs.View.{trees_of}
use Rattle.acpi_names.specs.Errors.{whole_of, name_errors, type_errors}
use Rattle.acpi_names.specs.Tables.{Tabled}
use Rattle.name_checks.specs.Messages.{told_errors}
use Rattle.name_checks.specs.Refusals.{Refuses}
use Rattle.name_checks.proofs.check.check.Goals as goal

pub returns-in-Ok-clause-calls : goal.returns-in-Ok-clause-calls
returns-in-Ok-clause-calls c =
    subst (λ ns. IfOk c.check_known.result (λ n. Tabled n.index.paths n.calls.items (lookup (whole_of (trees_of ns)).calls))) c.in-Ok.ensures.terms c.check_known.ensures.calls

pub returns-in-Ok-clause-right : goal.returns-in-Ok-clause-right
returns-in-Ok-clause-right c =
    subst (λ ns. OnOk c.check_known.result ((name_errors (trees_of ns) ≡ []) × (type_errors (trees_of ns) ≡ []))) c.in-Ok.ensures.terms c.check_known.ensures.right

pub returns-in-Ok-clause-refused : goal.returns-in-Ok-clause-refused
returns-in-Ok-clause-refused c = subst (λ ns. IfErr c.check_known.result (λ stage. Refuses stage (told_errors (trees_of ns)))) c.in-Ok.ensures.terms c.check_known.ensures.refused
