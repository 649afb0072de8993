use Rattle.std.proofs.Common.{◌∙◌}
use Rattle.asl_tree.specs.declared.term.Op.{Op}
use Rattle.asl_tree.specs.declared.term.Control.TheVariants as C
use Rattle.switch_loops.proofs.PutTurns.{one_tree}
use Rattle.switch_loops.proofs.made.when.Goals as goal

pub returns-clause-tree : goal.returns-clause-tree
returns-clause-tree c = c.control.ensures.tree ∙ one_tree (record { id = c.args.origin.id; place = c.args.origin.place }) (Op.Control C.If) c.in_ok-args.args.items c.args.body.items c.args.test c.in_ok-args.ensures
