use Rattle.std.proofs.Common.{◌∷◌, sym, ap, ◌∙◌}
use Rattle.acpi_names.specs.Paths.{number_in}
use Rattle.acpi_names.proofs.Closed.{own_number}
use Rattle.acpi_names.proofs.Numbers.{number_at}
use Rattle.descriptor_checks.proofs.told.+same_path.Goals as goal

pub returns-in_ok-scope-in-Some-clause-number : goal.returns-in_ok-scope-in-Some-clause-number
returns-in_ok-scope-in-Some-clause-number t c =
    let to = c.args.to.now in
    c.child.ensures.number ∙ ap (λ p. number_in to (c.in-Some.step.1 ∷ p)) (number_at to _ c.in_ok-scope-in-Some.scope (sym c.in_ok-scope-in-Some.ensures.number)) ∙ ap (number_in to) (sym c.in-Some.ensures.below.1)

pub returns-in-None-clause-number : goal.returns-in-None-clause-number
returns-in-None-clause-number t c =
    let to = c.args.to.now in
    sym (own_number to 0 c.len-count.ensures.distinct c.len-count.ensures.some) ∙ ap (number_in to) (c.len-count.ensures.root ∙ sym c.in-None.ensures.root)
