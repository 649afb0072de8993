use Rattle.asl_syntax.specs.Opens.{tree_of}
use Rattle.asl_parser.proofs.Settled.{posts}
use Rattle.asl_parser.proofs.settle.post.Goals as goal

pub returns-clause-tree : goal.returns-clause-tree
returns-clause-tree c = posts c.args.spot c.args.op c.args.stack.now.0 (tree_of c.apply.new.self.0) c.leading_held-first.result c.requires.one c.leading_held-first.ensures c.in_ok-apply.ensures.tree
