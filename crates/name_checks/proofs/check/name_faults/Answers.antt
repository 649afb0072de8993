use Rattle.std.proofs.Common.{◌++◌, map, ap, ◌∙◌}
use Rattle.asl_meaning.specs.Declarations.{nothing_declared}
use Rattle.acpi_names.specs.Mentions.{all_errors}
use Rattle.acpi_names.specs.Shown.{all_shown}
use Rattle.name_checks.specs.Faults.{fault_as}
use Rattle.name_checks.specs.Messages.{message_of}
use Rattle.name_checks.proofs.Blocks.{faults_told}
use Rattle.name_checks.proofs.check.name_faults.Goals as goal

pub returns : goal.returns
returns g c =
    let paths = c.args.facts.now.index.paths in
    let found = all_errors g.whole (all_shown paths c.args.mentions.now) nothing_declared in
    c.from_vec.ensures
    ∙ faults_told paths c.all_errors.new.out.items c.in_ok-errors.errors.items found (c.in_ok-errors.ensures ∙ ap (map (λ f. message_of (fault_as paths f))) c.deref.ensures.value)
    (c.in_ok-all_errors.ensures ∙ ap (λ old. map (fault_as paths) old ++ found) c.new-out.ensures.items)
