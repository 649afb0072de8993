use Rattle.std.proofs.Common.{ap}
use Rattle.asl_formats.specs.Bare.{bare_all}
use Rattle.asl_prints.specs.Numbers.{numbers_of}
use Rattle.asl_formats.proofs.Stepping.{appended_none}
use Rattle.asl_formats.proofs.Shown.{bare_next}
use Rattle.asl_formats.proofs.PlanSteps.{plans_none, plans_next}
use Rattle.asl_formats.proofs.RenewNumbers.{front_begun, none_behind, renewed_next, renewed_behind}
use Rattle.asl_formats.proofs.renew.append_renewed.Goals as goal

pub loop-node-init : goal.loop-node-init
loop-node-init c = record {
  trees = λ h. ap bare_all (appended_none c.args.front.items c.args.nodes.now);
  plans = plans_none c.args.front.items c.args.nodes.now;
  numbers = front_begun c.args.next.now c.args.front.items c.args.nodes.now;
  next = none_behind c.args.next.now c.args.nodes.now;
}

pub loop-node-preserved : goal.loop-node-preserved
loop-node-preserved c = record {
  trees = λ h. bare_next c.args.front.items c.args.nodes.now c.loop-node.all.items c.push.new.self.items c.loop-node.node-index c.node-item.result c.in_ok-renewed.field-0 c.loop-node-test.true c.node-item.is h (c.loop-node.invariant.trees h) c.in_ok-renewed.ensures.plan c.in_ok-push.ensures.items;
  plans = plans_next c.args.front.items c.args.nodes.now c.loop-node.all.items c.push.new.self.items c.loop-node.node-index c.node-item.result c.in_ok-renewed.field-0 c.loop-node-test.true c.node-item.is c.loop-node.invariant.plans c.in_ok-renewed.ensures.plan c.in_ok-push.ensures.items;
  numbers = renewed_next c.args.next.now c.loop-node.next (numbers_of c.args.front.items) c.args.nodes.now c.loop-node.all.items c.push.new.self.items c.loop-node.node-index c.node-item.result c.in_ok-renewed.field-0 c.loop-node-test.true c.node-item.is c.loop-node.invariant.numbers c.loop-node.invariant.next
      c.in_ok-renewed.ensures.numbers c.in_ok-push.ensures.items;
  next = renewed_behind c.args.next.now c.loop-node.next c.renewed.new.next c.args.nodes.now c.loop-node.node-index c.node-item.result c.loop-node-test.true c.node-item.is c.loop-node.invariant.next c.in_ok-renewed.ensures.next;
}
