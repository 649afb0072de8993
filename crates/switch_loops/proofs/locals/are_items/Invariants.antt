use Rattle.std.proofs.Common.{◌≡◌, drop}
use Rattle.asl_tree.specs.View.{trees_of}
use Rattle.acpi_names.specs.Parts.{is_item_list}
use Rattle.switch_loops.proofs.locals.are_items.Given as goal

abbrev pub invariant-loop-node : goal.invariant-loop-node
invariant-loop-node l = is_item_list (trees_of (drop l.node-index l.nodes)) ≡ is_item_list (trees_of l.nodes)
