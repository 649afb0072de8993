use Rattle.asl_tree.specs.declared.term.Op.{Op}
use Rattle.switch_loops.proofs.MadeRows.{form_terms}
use Rattle.switch_loops.proofs.made.control.Goals as goal

pub returns-clause-places : goal.returns-clause-places
returns-clause-places c = form_terms c.args.origin.place (Op.Control c.args.op) c.args.args c.args.body
