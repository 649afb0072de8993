use Rattle.std.proofs.Common.{ap, ◌∙◌}
use Rattle.std.specs.Prelude.{is_some}
use Rattle.acpi_names.specs.Errors as spec
use Rattle.acpi_names.specs.Shown.{spot_as}
use Rattle.name_checks.proofs.Finding.{finds_as, finds_then}
use Rattle.name_checks.proofs.rules.use_errors.Goals as goal

pub returns : goal.returns
returns g c =
    let paths = c.args.facts.now.index.paths in
    let w0 = c.args.out.now.items in
    let w1 = c.step_errors.new.out.items in
    let w2 = c.unless.new.out.items in
    finds_then paths w0 w1 w2 _ _ c.in_ok-step_errors.ensures
    (finds_as paths w1 w2 _ _ (ap (λ b. spec.unless b (spec.Missing (spot_as c.args.at) c.args.name.now)) (c.is_found.ensures paths ∙ ap is_some c.requires.1)) (c.in_ok-unless.ensures paths))
