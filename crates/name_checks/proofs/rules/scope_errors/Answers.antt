use Rattle.std.proofs.Common.{[], get_or, ap, sym, ◌∙◌}
use Rattle.acpi_names.specs.Errors as spec
use Rattle.acpi_names.specs.Paths.{path_with}
use Rattle.acpi_names.specs.Shown.{spot_as}
use Rattle.name_checks.proofs.Finding.{finds_as, finds_then, one_scope}
use Rattle.name_checks.proofs.rules.scope_errors.Goals as goal

pub returns-in_ok-unless-in-Some-2 : goal.returns-in_ok-unless-in-Some-2
returns-in_ok-unless-in-Some-2 g c =
    let paths = c.args.facts.now.index.paths in
    let here = spot_as c.args.here in
    let at = spot_as c.args.at in
    let name = c.args.name.now in
    let w0 = c.args.out.now.items in
    let w1 = c.unless.new.out.items in
    let w2 = c.unless-in-Some.new.out.items in
    finds_as paths w0 w2 _ _ (one_scope g.whole here at name (get_or paths c.args.scope []) (get_or paths c.args.inner []) (get_or paths c.in-Some.number []) (ap (path_with paths) (sym c.in-Some.is) ∙ c.requires.1.0))
    (finds_then paths w0 w1 w2 _ _
    (finds_as paths w0 w1 _ _ (ap (λ b. spec.unless b (spec.Missing at name)) c.is_same.ensures) (c.in_ok-unless-in-Some.ensures paths))
    (finds_as paths w1 w2 _ _ (ap (λ b. spec.unless b (spec.NoContainer here name)) c.opens.ensures) (c.in_ok-unless-in-Some-2.ensures paths)))
