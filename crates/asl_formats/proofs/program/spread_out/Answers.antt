use Rattle.std.proofs.Common.{ap, ◌∙◌, arith}
use Rattle.asl_tree.specs.View.{trees_of}
use Rattle.term_plans.specs.Plans.{plans_of}
use Rattle.asl_formats.proofs.Programs.{spread_begun, spread_next, spread_done}
use Rattle.asl_formats.proofs.PlanPrograms as L
use Rattle.asl_formats.proofs.program.spread_out.Goals as goal

pub loop-node-init : goal.loop-node-init
loop-node-init c = record {
  trees = spread_begun c.args.terms.items c.new-made.result.items c.new-made.ensures.items;
  plans = L.spread_begun c.args.terms.items c.new-made.result.items c.new-made.ensures.items;
}

pub loop-node-preserved : goal.loop-node-preserved
loop-node-preserved c = record {
  trees = spread_next c.loop-node.left.items c.pop.new.self.items c.loop-node.made.items c.put.new.made.items c.in-Some.node _ c.in-Some.ensures.items c.in_ok-put.ensures.trees c.loop-node.invariant.trees;
  plans = L.spread_next c.loop-node.left.items c.pop.new.self.items c.loop-node.made.items c.put.new.made.items c.in-Some.node _ c.in-Some.ensures.items c.in_ok-put.ensures.plans c.loop-node.invariant.plans;
}

pub returns-clause-trees : goal.returns-clause-trees
returns-clause-trees c = ap trees_of c.reverse.ensures.items ∙ spread_done c.loop-node.left.items c.loop-node.made.items _ (omega (arith, c.in_default.ensures.cases.0)) c.loop-node.invariant.trees

pub returns-clause-plans : goal.returns-clause-plans
returns-clause-plans c = ap plans_of c.reverse.ensures.items ∙ L.spread_done c.loop-node.left.items c.loop-node.made.items _ (omega (arith, c.in_default.ensures.cases.0)) c.loop-node.invariant.plans
