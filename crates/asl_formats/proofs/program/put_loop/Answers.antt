use Rattle.asl_formats.proofs.Programs.{loop_put}
use Rattle.asl_formats.proofs.PlanPrograms as L
use Rattle.asl_formats.proofs.Standing.{loop_term}
use Rattle.asl_formats.proofs.program.put_loop.Goals as goal

pub loop_form-requires : goal.loop_form-requires
loop_form-requires c = loop_term (record { id = c.args.node.now.id; place = c.args.node.now.place }) c.args.node.now.term c.requires

pub returns-clause-trees : goal.returns-clause-trees
returns-clause-trees c = loop_put c.args.made.now.items c.put_all.new.made.items c.in_ok-terms.terms.items c.args.node.now c.requires c.in_ok-terms.ensures.trees c.in_ok-put_all.ensures.trees

pub returns-clause-plans : goal.returns-clause-plans
returns-clause-plans c = L.loop_put c.args.made.now.items c.put_all.new.made.items c.in_ok-terms.terms.items c.args.node.now c.in_ok-terms.ensures.plans c.in_ok-put_all.ensures.plans
