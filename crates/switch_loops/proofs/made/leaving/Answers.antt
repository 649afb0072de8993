use Rattle.std.proofs.Common.{◌∙◌}
use Rattle.asl_tree.specs.declared.term.Op.{Op}
use Rattle.switch_loops.proofs.MadeRows.{bare_made, bare_placed}
use Rattle.switch_loops.proofs.made.leaving.Goals as goal

pub returns-clause-tree : goal.returns-clause-tree
returns-clause-tree c = c.control.ensures.tree ∙ bare_made (record { id = c.args.origin.id; place = c.args.origin.place }) (Op.Control c.args.op) c.new.result.items c.new-2.result.items c.new.ensures.items c.new-2.ensures.items

pub returns-clause-places : goal.returns-clause-places
returns-clause-places c = c.control.ensures.places ∙ bare_placed c.args.op c.args.origin.place c.new-2.result.items c.new-2.ensures.items
