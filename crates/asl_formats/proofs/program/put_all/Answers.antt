use Rattle.std.proofs.Common.{arith}
use Rattle.asl_formats.proofs.Programs.{moved_next, moved_all}
use Rattle.asl_formats.proofs.PlanPrograms as L
use Rattle.asl_formats.proofs.program.put_all.Goals as goal

pub loop-term-preserved : goal.loop-term-preserved
loop-term-preserved c = record {
  trees = moved_next c.loop-term.left.items c.pop.new.self.items c.loop-term.made.items c.push.new.self.items c.in-Some.term _ c.in-Some.ensures.items c.in_ok-push.ensures.items c.loop-term.invariant.trees;
  plans = L.moved_next c.loop-term.left.items c.pop.new.self.items c.loop-term.made.items c.push.new.self.items c.in-Some.term _ c.in-Some.ensures.items c.in_ok-push.ensures.items c.loop-term.invariant.plans;
}

pub returns-clause-trees : goal.returns-clause-trees
returns-clause-trees c = moved_all c.loop-term.left.items c.loop-term.made.items _ (omega (arith, c.in_default.ensures.cases.0)) c.loop-term.invariant.trees

pub returns-clause-plans : goal.returns-clause-plans
returns-clause-plans c = L.moved_all c.loop-term.left.items c.loop-term.made.items _ (omega (arith, c.in_default.ensures.cases.0)) c.loop-term.invariant.plans
