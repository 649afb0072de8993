use Rattle.std.proofs.Common.{refl}
use Rattle.asl_tree.specs.Tree.{no_trees, tree}
use Rattle.asl_tree.specs.View.{trees_of}
use Rattle.asl_prints.specs.Forms.{spread}
use Rattle.asl_prints.specs.Nodes.{node_tree}
use Rattle.asl_formats.proofs.Bare.{bare_does}
use Rattle.asl_formats.proofs.Fors.{spread_does}
use Rattle.asl_formats.proofs.for_loop.for_form.Goals as goal

pub returns-clause-trees : goal.returns-clause-trees
returns-clause-trees c = c.in_ok-made.ensures.trees

pub returns-clause-numbers : goal.returns-clause-numbers
returns-clause-numbers c plain = c.in_ok-made.ensures.numbers refl plain

pub returns-clause-same : goal.returns-clause-same
returns-clause-same c =
    let t = node_tree c.args.node.now in
    bare_does (tree t no_trees) (trees_of c.in_ok-made.made.items) (spread t no_trees) c.in_ok-made.ensures.trees (spread_does t (spread t no_trees) refl)
