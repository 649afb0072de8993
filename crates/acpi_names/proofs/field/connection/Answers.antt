use Rattle.std.proofs.Common.{[], ◌∷◌, get_or, sym, ap, ◌∙◌}
use Rattle.acpi_names.specs.Errors.{AnObject}
use Rattle.acpi_names.specs.Mentions as M
use Rattle.acpi_names.specs.Shown.{spot_as}
use Rattle.acpi_names.proofs.Folds.{at_of}
use Rattle.acpi_names.proofs.Telling.{tells_as, tells_none, tells_one}
use Rattle.acpi_names.proofs.Units.{connection_there, connection_none}
use Rattle.acpi_names.proofs.field.connection.Goals as goal

pub returns-in_ok-push-in-Name : goal.returns-in_ok-push-in-Name
returns-in_ok-push-in-Name c =
    tells_as c.args.out.now.items c.push.new.self.items _ _
    (λ ps. ap (λ at. M.Used' AnObject at c.in-Name.name (get_or ps c.args.scope []) ∷ []) (ap spot_as c.spot_of.ensures)
    ∙ connection_there (at_of c.args.node.now) c.args.node.now.term c.in-Name.name (get_or ps c.args.scope []) c.in-Name.is)
    (tells_one c.args.out.now.items c.push.new.self.items _ c.in_ok-push-in-Name.ensures.items)

pub returns-in_default : goal.returns-in_default
returns-in_default c =
    tells_as c.args.out.now.items c.args.out.now.items _ _
    (λ ps. sym (connection_none (at_of c.args.node.now) c.args.node.now.term (get_or ps c.args.scope []) c.in_default.not-Name)) (tells_none c.args.out.now.items)
