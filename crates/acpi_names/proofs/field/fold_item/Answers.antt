use Rattle.std.proofs.Common.{[], ◌∷◌, ◌++◌, get_or, sym, ap, ◌∙◌}
use Rattle.asl_meaning.specs.Declarations.{as_unit}
use Rattle.acpi_names.specs.Errors.{unit_path}
use Rattle.acpi_names.specs.Mentions as M
use Rattle.acpi_names.specs.Shown.{spot_as}
use Rattle.acpi_names.specs.Units.{declare_unit, unit_mentions, connection_mentions}
use Rattle.acpi_names.specs.Walked.{node_tree}
use Rattle.acpi_names.proofs.Folds.{at_of, leads_declared}
use Rattle.acpi_names.proofs.FoldTelling.{leads_as, leads_here}
use Rattle.acpi_names.proofs.Telling.{tells_as, tells_one}
use Rattle.acpi_names.proofs.Units.{entry_unit, unit_there, unit_none}
use Rattle.acpi_names.proofs.field.fold_item.Goals as goal

pub returns-in_ok-push-in-Some-clause-names : goal.returns-in_ok-push-in-Some-clause-names
returns-in_ok-push-in-Some-clause-names c =
    let scope = get_or c.args.index.now.paths c.args.scope [] in
    leads_as c.args.index.now.paths c.declared_unit.new.index.paths c.args.index.now.named.items c.declared_unit.new.index.named.items _ _
    (λ d. ap (λ u. declare_unit u scope d) (sym (unit_there (at_of c.args.node.now) c.args.node.now.term c.in-Some.segment c.in-Some.ensures)))
    (leads_declared c.args.index.now.paths c.declared_unit.new.index.paths c.args.index.now.named.items c.declared_unit.new.index.named.items (c.in-Some.segment ∷ scope) as_unit c.in_ok-path-in-Some.ensures.names)

pub returns-in_ok-push-in-Some-clause-told : goal.returns-in_ok-push-in-Some-clause-told
returns-in_ok-push-in-Some-clause-told c =
    tells_as c.args.out.now.items c.push.new.self.items _ _
    (λ ps. ap (λ at. M.Declares at (unit_path c.in-Some.segment) as_unit (get_or ps c.args.scope []) ∷ []) (ap spot_as c.spot_of.ensures)
    ∙ entry_unit (node_tree c.args.node.now) _ (get_or ps c.args.scope []) (unit_there (at_of c.args.node.now) c.args.node.now.term c.in-Some.segment c.in-Some.ensures))
    (tells_one c.args.out.now.items c.push.new.self.items _ c.in_ok-push-in-Some.ensures.items)

pub returns-in_ok-connection-in-None-clause-names : goal.returns-in_ok-connection-in-None-clause-names
returns-in_ok-connection-in-None-clause-names c =
    leads_as c.args.index.now.paths c.args.index.now.paths c.args.index.now.named.items c.args.index.now.named.items _ _
    (λ d. ap (λ u. declare_unit u (get_or c.args.index.now.paths c.args.scope []) d) (sym (unit_none (at_of c.args.node.now) c.args.node.now.term c.in-None.ensures)))
    (leads_here c.args.index.now.paths c.args.index.now.named.items)

pub returns-in_ok-connection-in-None-clause-told : goal.returns-in_ok-connection-in-None-clause-told
returns-in_ok-connection-in-None-clause-told c =
    tells_as c.args.out.now.items c.connection.new.out.items _ _
    (λ ps. ap (λ u. unit_mentions u (get_or ps c.args.scope []) ++ connection_mentions (node_tree c.args.node.now) (get_or ps c.args.scope [])) (sym (unit_none (at_of c.args.node.now) c.args.node.now.term c.in-None.ensures)))
    c.in_ok-connection-in-None.ensures
