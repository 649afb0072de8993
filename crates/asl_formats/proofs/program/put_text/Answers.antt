use Rattle.asl_formats.proofs.Programs.{text_put}
use Rattle.asl_formats.proofs.PlanPrograms as L
use Rattle.asl_formats.proofs.Standing.{text_term}
use Rattle.asl_formats.proofs.program.put_text.Goals as goal

pub stands-requires : goal.stands-requires
stands-requires c = text_term (record { id = c.args.node.now.id; place = c.args.node.now.place }) c.args.node.now.term c.requires

pub returns-clause-trees : goal.returns-clause-trees
returns-clause-trees c = text_put c.args.made.now.items c.push.new.self.items c.args.node.now c.in_ok-printed.printed.node c.requires c.in_ok-printed.ensures.tree c.in_ok-push.ensures.items

pub returns-clause-plans : goal.returns-clause-plans
returns-clause-plans c = L.text_put c.args.made.now.items c.push.new.self.items c.args.node.now c.in_ok-printed.printed.node c.in_ok-printed.ensures.plan c.in_ok-push.ensures.items
