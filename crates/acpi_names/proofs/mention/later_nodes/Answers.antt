use Rattle.std.proofs.Common.{◌≡◌, ◌+◌, ◌-◌, suc, drop, length, ap, ◌∙◌, arith, length-drop}
use Rattle.std.proofs.lemmas.List.{take_all}
use Rattle.asl_tree.specs.View.{trees_of}
use Rattle.acpi_names.proofs.Naming.{dropped_trees, later_none}
use Rattle.acpi_names.proofs.mention.later_nodes.Goals as goal

pub returns-then-place-nodes : goal.returns-then-place-nodes
returns-then-place-nodes c =
    let k = c.args.place + 1 in
    let e : c.args.place + 1 ≡ suc c.args.place = omega arith in
    ap trees_of (take_all (length c.args.nodes.now - k) (drop k c.args.nodes.now) (omega (arith, length-drop k c.args.nodes.now)))
    ∙ ap (λ n. trees_of (drop n c.args.nodes.now)) e ∙ dropped_trees (suc c.args.place) c.args.nodes.now

pub returns-else-place-nodes : goal.returns-else-place-nodes
returns-else-place-nodes c = later_none c.args.place c.args.nodes.now c.if-place-nodes.false
