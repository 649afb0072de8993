use Rattle.std.proofs.Common.{◌∙◌, arith}
use Rattle.switch_loops.proofs.Packs.{members_init, members_none, members_next, members_end}
use Rattle.switch_loops.proofs.made.members_test.Goals as goal

pub returns-in-None : goal.returns-in-None
returns-in-None c g = c.word.ensures.tree ∙ members_none c.args.index c.args.members.items c.reverse.new.self.items c.reverse.ensures.items (omega (arith, c.in-None.ensures.cases))

pub loop-member-init : goal.loop-member-init
loop-member-init c = record {
  joined = λ g. members_init c.args.index c.args.members.items c.reverse.new.self.items c.pop.new.self.items c.in-Some.member c.in_ok-test-in-Some.test c.reverse.ensures.items c.in-Some.ensures.items c.in_ok-test-in-Some.ensures g;
}

pub loop-member-preserved : goal.loop-member-preserved
loop-member-preserved c = record {
  joined = λ g. members_next c.args.index c.loop-member.left.items c.pop-in-loop-member.new.self.items c.in-Some-pop.member c.loop-member.test c.in_ok-next.next c.in_ok-test.test _ c.in-Some-pop.ensures.items c.in_ok-next.ensures c.in_ok-test.ensures (c.loop-member.invariant.joined g);
}

pub returns : goal.returns
returns c g = members_end c.args.index c.loop-member.left.items c.loop-member.test _ (omega (arith, c.in_default.ensures.cases.0)) (c.loop-member.invariant.joined g)
