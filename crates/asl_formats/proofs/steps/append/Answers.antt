use Rattle.asl_prints.specs.Numbers.{numbers_of}
use Rattle.asl_formats.proofs.Stepping.{appended_none, appended_next}
use Rattle.asl_formats.proofs.PlanSteps.{plans_none, plans_next}
use Rattle.asl_prints.proofs.NodeNumbers.{numbers_copied, front_only}
use Rattle.asl_formats.proofs.steps.append.Goals as goal

pub loop-node-init : goal.loop-node-init
loop-node-init c = record {
  trees = appended_none c.args.front.items c.args.nodes.now;
  numbers = front_only c.args.front.items c.args.nodes.now;
  plans = plans_none c.args.front.items c.args.nodes.now;
}

pub loop-node-preserved : goal.loop-node-preserved
loop-node-preserved c = record {
  trees = appended_next c.args.front.items c.args.nodes.now c.loop-node.all.items c.push.new.self.items c.loop-node.node-index c.node-item.result c.in_ok-copied.field-0 c.loop-node-test.true c.node-item.is c.loop-node.invariant.trees c.in_ok-copied.ensures.tree c.in_ok-push.ensures.items;
  numbers = numbers_copied (numbers_of c.args.front.items) c.args.nodes.now c.loop-node.all.items c.push.new.self.items c.loop-node.node-index c.node-item.result c.in_ok-copied.field-0 c.loop-node-test.true c.node-item.is c.loop-node.invariant.numbers c.in_ok-copied.ensures.numbers c.in_ok-push.ensures.items;
  plans = plans_next c.args.front.items c.args.nodes.now c.loop-node.all.items c.push.new.self.items c.loop-node.node-index c.node-item.result c.in_ok-copied.field-0 c.loop-node-test.true c.node-item.is c.loop-node.invariant.plans c.in_ok-copied.ensures.plan c.in_ok-push.ensures.items;
}
