use Rattle.std.proofs.Common.{[], get_or, sym}
use Rattle.acpi_names.proofs.Telling.{print_first, print_none, tells_as, tells_none, tells_then}
use Rattle.acpi_names.proofs.index.printed.Goals as goal

pub returns-in_ok-values-in-len1-up : goal.returns-in_ok-values-in-len1-up
returns-in_ok-values-in-len1-up c =
    tells_as c.args.out.now.items c.values.new.out.items _ _ (λ ps. sym (print_first c.args.args.now c.later_nodes.result.now c.place-item.result (get_or ps c.args.scope []) c.in-len1-up.len_at_least c.place-item.is c.later_nodes.ensures))
    (tells_then c.args.out.now.items c.spot.new.out.items c.values.new.out.items _ _ c.in_ok-spot-in-len1-up.ensures c.in_ok-values-in-len1-up.ensures)

pub returns-in_default : goal.returns-in_default
returns-in_default c = tells_as c.args.out.now.items c.args.out.now.items _ _ (λ ps. sym (print_none c.args.args.now (get_or ps c.args.scope []) c.in_default.len_below)) (tells_none c.args.out.now.items)
