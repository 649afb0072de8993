use Rattle.asl_prints.proofs.PlanWrites.{debug_made}
use Rattle.asl_tree.specs.declared.term.Term as D
use Rattle.asl_prints.proofs.PrintNumbers.{leaf_numbers, debug_leaf}
use Rattle.asl_prints.proofs.print.debug.Goals as goal

pub returns-clause-plan : goal.returns-clause-plan
returns-clause-plan c = debug_made c.args.id c.args.place

pub returns-clause-numbers : goal.returns-clause-numbers
returns-clause-numbers c = leaf_numbers (record { id = c.args.id; place = c.args.place; term = D.Debug }) debug_leaf
