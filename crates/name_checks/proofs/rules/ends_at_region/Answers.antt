use Rattle.std.proofs.Common.{[], get_or, ap, sym, ◌∙◌}
use Rattle.acpi_names.specs.Errors as spec
use Rattle.name_kinds.specs.Ends.{ended}
use Rattle.name_checks.proofs.rules.ends_at_region.Goals as goal

pub returns-in-Some : goal.returns-in-Some
returns-in-Some c paths = c.is_region.ensures (get_or paths c.in-Some.end.path []) ∙ ap (λ e. spec.is_region (ended paths e)) (sym c.in-Some.is)
