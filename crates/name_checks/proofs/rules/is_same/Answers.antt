use Rattle.std.proofs.Common.{[], get_or, ap, sym, ◌∙◌}
use Rattle.acpi_values.specs.Paths.{is_same_path}
use Rattle.acpi_names.proofs.Numbers.{same_places}
use Rattle.name_checks.proofs.rules.is_same.Goals as goal

pub returns : goal.returns
returns c =
    sym (same_places c.args.facts.now.index.paths c.args.number c.scope_in.result c.len-count.ensures.distinct c.requires c.scope_in.ensures.within)
    ∙ ap (is_same_path (get_or c.args.facts.now.index.paths c.args.number [])) c.scope_in.ensures.path
