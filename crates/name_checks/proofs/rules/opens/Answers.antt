use Rattle.std.proofs.Common.{[], get_or, ap, ◌∙◌}
use Rattle.acpi_names.specs.Errors as spec
use Rattle.name_checks.proofs.rules.opens.Goals as goal

pub returns-in-Some : goal.returns-in-Some
returns-in-Some g c = c.is_container.ensures (get_or c.args.facts.now.index.paths c.in-Some.end.path []) ∙ ap spec.is_container c.in-Some.ensures
