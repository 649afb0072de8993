use Rattle.std.proofs.Common.{arith}
use Rattle.asl_tree.specs.View.{trees_of}
use Rattle.core_nodes.proofs.Formed.{formed_whole}
use Rattle.asl_tables.proofs.compile.steps_weight.Goals as goal

pub copied_weight-requires : goal.copied_weight-requires
copied_weight-requires c = formed_whole _ _ _ _ (trees_of c.args.terms.now) c.requires

pub returns-then-present : goal.returns-then-present
returns-then-present c = let is = c.copied_weight.ensures in omega (arith, is)
