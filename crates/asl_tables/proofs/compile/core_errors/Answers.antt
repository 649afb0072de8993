use Rattle.std.proofs.Common.{◌≡◌, subst}
use Rattle.std.specs.Prelude.{IfOk}
use Rattle.asl_tree.specs.View.{trees_of}
use Rattle.asl_numbers.specs.Numbers.{nodes}
use Rattle.core_nodes.specs.Nodes.{nodes_in}
use Rattle.core_nodes.proofs.Formed.{formed_whole}
use Rattle.copy_checks.specs.Copies.{copies_told}
use Rattle.asl_tables.proofs.compile.core_errors.Goals as goal

pub core_nodes-requires : goal.core_nodes-requires
core_nodes-requires c = formed_whole _ _ _ _ (trees_of c.args.core.now) c.requires

pub returns : goal.returns
returns c = λ block ps is.
    let core = nodes_in (trees_of c.args.core.now) in
    subst (λ place. IfOk c.copies_told.result (λ told. told ≡ copies_told place (nodes ps) core)) is.place
    (c.copies_told.ensures (nodes ps) core is.nodes c.core_nodes.ensures)
