use Rattle.std.proofs.Common.{sym, ap, ◌∙◌}
use Rattle.asl_tree.specs.Names.{declared_path}
use Rattle.acpi_names.specs.Shown.{written_as}
use Rattle.acpi_names.proofs.Numbers.{number_at}
use Rattle.name_kinds.proofs.tables.declared_at.Goals as goal

pub returns-in-Some-clause-path : goal.returns-in-Some-clause-path
returns-in-Some-clause-path g c =
    number_at c.args.index.now.paths _ c.in-Some.number (sym c.in-Some.ensures) ∙ ap (declared_path (written_as c.args.name)) c.scope_in-scope.ensures.path
