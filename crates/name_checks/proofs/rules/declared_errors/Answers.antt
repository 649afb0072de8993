use Rattle.std.proofs.Common.{[], get_or, ap, ◌∙◌}
use Rattle.acpi_names.specs.Errors as spec
use Rattle.acpi_names.specs.Shown.{spot_as, written_as}
use Rattle.name_checks.proofs.Finding.{finds_as, finds_then}
use Rattle.name_checks.proofs.rules.declared_errors.Goals as goal

pub returns : goal.returns
returns g c d before =
    let paths = c.args.facts.now.index.paths in
    let at = spot_as c.args.at in
    let name = written_as c.args.name in
    let here = get_or paths c.args.path [] in
    let e = c.requires.1.1.0 in
    let w0 = c.args.out.now.items in
    let w1 = c.unless.new.out.items in
    let w2 = c.step_errors.new.out.items in
    let w3 = c.unless-2.new.out.items in
    let w4 = c.length_errors.new.out.items in
    finds_then paths w0 w1 w4 _ _
    (finds_as paths w0 w1 _ _ (ap (λ b. spec.unless b (spec.Twice at here)) (c.is_new-new.ensures d before) ∙ ap (λ p. spec.unless (spec.is_new d p) (spec.Twice at p)) e) (c.in_ok-unless.ensures paths))
    (finds_then paths w1 w2 w4 _ _ c.in_ok-step_errors.ensures
    (finds_then paths w2 w3 w4 _ _
    (finds_as paths w2 w3 _ _ (ap (λ b. spec.unless b (spec.Missing at name)) c.has_parent.ensures ∙ ap (λ p. spec.unless (spec.has_parent g.whole.all p) (spec.Missing at name)) e) (c.in_ok-unless-2.ensures paths))
    (finds_as paths w3 w4 _ _ (ap (spec.length_errors at name) e) c.in_ok-length_errors.ensures)))
