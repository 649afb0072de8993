use Rattle.acpi_state.specs.Objects.{lookup}
use Rattle.std.proofs.Common.{[], get_or, ap, sym, ◌∙◌}
use Rattle.std.specs.Prelude.{not, ◌||◌}
use Rattle.acpi_names.specs.Errors as spec
use Rattle.acpi_names.specs.Paths.{path_with}
use Rattle.acpi_names.specs.Shown.{spot_as}
use Rattle.name_checks.specs.Calls.{is_open, is_first}
use Rattle.name_checks.proofs.Finding.{finds_as, one_call}
use Rattle.name_checks.proofs.rules.call_errors.Goals as goal

pub returns-in_ok-unless-in-Some : goal.returns-in_ok-unless-in-Some
returns-in_ok-unless-in-Some g c =
    let paths = c.args.facts.now.index.paths in
    let at = spot_as c.args.at in
    let name = c.args.name.now in
    finds_as paths c.args.out.now.items c.unless.new.out.items _ _
    (ap (λ b. spec.unless b (spec.Differs at name)) (c.is_answered.ensures ∙ ap (λ o. not (is_open o) || is_first c.args.args c.first_call-first.result) c.first_external-external.ensures
    ∙ ap (λ f. not (is_open (lookup g.whole.all.external (get_or paths c.in-Some.number []))) || is_first c.args.args f) c.first_call-first.ensures)
    ∙ one_call g.whole at name c.args.args (get_or paths c.args.scope []) (get_or paths c.in-Some.number []) (ap (path_with paths) (sym c.in-Some.is) ∙ c.requires.1.0))
    (c.in_ok-unless-in-Some.ensures paths)
