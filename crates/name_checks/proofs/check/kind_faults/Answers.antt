use Rattle.std.proofs.Common.{◌++◌, map, ap, ◌∙◌}
use Rattle.acpi_names.specs.Mentions.{all_types}
use Rattle.acpi_names.specs.Shown.{all_shown}
use Rattle.name_checks.specs.Faults.{fault_as}
use Rattle.name_checks.specs.Messages.{message_of}
use Rattle.name_checks.proofs.Blocks.{faults_told}
use Rattle.name_checks.proofs.check.kind_faults.Goals as goal

pub returns : goal.returns
returns g c =
    let paths = c.args.facts.now.index.paths in
    let found = all_types g.whole (all_shown paths c.args.mentions.now) in
    c.from_vec.ensures
    ∙ faults_told paths c.all_types.new.out.items c.in_ok-errors.errors.items found (c.in_ok-errors.ensures ∙ ap (map (λ f. message_of (fault_as paths f))) c.deref.ensures.value)
    (c.in_ok-all_types.ensures ∙ ap (λ old. map (fault_as paths) old ++ found) c.new-out.ensures.items)
