use Rattle.std.proofs.Common.{◌∙◌}
use Rattle.asl_tree.specs.View.{trees_of}
use Rattle.asl_fold.proofs.Forms.{statements_are}
use Rattle.asl_fold.proofs.fold.fold.Goals as goal

pub returns-clause-trees : goal.returns-clause-trees
returns-clause-trees c = c.in_ok-fold_nodes.ensures.trees ∙ statements_are c.args.width (trees_of c.args.terms.items)
