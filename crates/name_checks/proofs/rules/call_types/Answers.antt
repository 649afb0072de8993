use Rattle.std.proofs.Common.{None, ap, ◌∙◌}
use Rattle.acpi_state.specs.Outcomes.{choose}
use Rattle.acpi_names.specs.Errors as spec
use Rattle.acpi_names.specs.Shown.{spot_as}
use Rattle.name_checks.proofs.Finding.{finds_as}
use Rattle.name_checks.proofs.rules.call_types.Goals as goal

pub returns : goal.returns
returns g c =
    let paths = c.args.facts.now.index.paths in
    finds_as paths c.args.out.now.items c.unless.new.out.items _ _
    (ap (λ b. spec.unless b (spec.WrongCount (spot_as c.args.at) c.args.name.now)) (c.takes.ensures paths ∙ ap (spec.takes c.args.args) (c.name_end-end.ensures ∙ ap (λ o. choose o None (spec.final g.whole.known)) c.requires.1.0)))
    (c.in_ok-unless.ensures paths)
