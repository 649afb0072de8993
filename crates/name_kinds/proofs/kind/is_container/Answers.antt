use Rattle.std.proofs.Common.{Some, sym, ap, ◌∙◌}
use Rattle.acpi_names.specs.Errors.{is_container as container_is}
use Rattle.name_kinds.specs.Kinds.{object_as}
use Rattle.name_kinds.proofs.kind.is_container.Goals as goal

pub returns-in-Declared : goal.returns-in-Declared
returns-in-Declared c path = c.is_container_kind.ensures path ∙ ap (λ o. container_is (Some (path, object_as o))) (sym c.in-Declared.is)
