use Rattle.std.proofs.Common.{[], ◌∷◌, get_or, ap, ◌∙◌}
use Rattle.std.specs.Prelude.{◌||◌}
use Rattle.acpi_values.specs.Paths.{is_same_path}
use Rattle.acpi_names.specs.Paths.{is_named_in}
use Rattle.acpi_names.proofs.Flags.{marked}
use Rattle.acpi_names.proofs.field.declared_unit.Goals as goal

pub returns-clause-names : goal.returns-clause-names
returns-clause-names c path =
    let more = c.reach.new.index.paths in
    let named = c.reach.new.index.named.items in
    marked more named c.in_ok-number.number c.len-count.ensures.distinct c.in_ok-number.ensures.within c.in_ok-number.ensures.size path
    ∙ ap (λ p. is_same_path path p || is_named_in more named path) c.in_ok-number.ensures.path
    ∙ ap (λ b. is_same_path path (c.args.segment ∷ get_or c.args.index.now.paths c.args.scope []) || b) (c.in_ok-number.ensures.names path)
