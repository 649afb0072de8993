use Rattle.std.proofs.Common.{sym}
use Rattle.acpi_names.specs.Walked.{shape_as}
use Rattle.acpi_names.proofs.Naming.{named_by, unnamed_by, named_none}
use Rattle.acpi_names.proofs.Telling.{not_named}
use Rattle.acpi_names.proofs.mention.name_at.Goals as goal

pub returns-in-Name : goal.returns-in-Name
returns-in-Name c = named_by c.args.place c.args.nodes.now c.in-Some.node.now c.spot_of.result c.in-Name.name.now (sym c.in-Some.ensures) c.spot_of.ensures c.in-Name.ensures.shape

pub returns-in_default : goal.returns-in_default
returns-in_default c =
    unnamed_by c.args.place c.args.nodes.now c.in-Some.node.now (shape_as c.shape_of.result) (sym c.in-Some.ensures) c.shape_of.ensures.shape (λ name e. not_named c.shape_of.result name c.in_default.not-Name e)

pub returns-in-None : goal.returns-in-None
returns-in-None c = sym (named_none c.args.nodes.now c.args.place (sym c.in-None.ensures))
