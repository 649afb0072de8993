use Rattle.std.proofs.Common.{suc, Bool, refl, subst}
use Rattle.asl_syntax.specs.Marks.{mark}
use Rattle.asl_parser.specs.Pairs.{plain, HoldsNode}
use Rattle.asl_parser.proofs.Calling.{argument_held}
use Rattle.asl_parser.proofs.calls.hold_argument.Goals as goal

pub returns-then-branch : goal.returns-then-branch
returns-then-branch c =
    let t = mark c.args.number c.args.first.now in
    let holds = subst (λ (b : Bool). HoldsNode b (plain t) c.args.stack.now c.hold_plain.new.stack) c.if-branch.true c.in_ok-hold_plain.ensures in
    argument_held c.behind_argument-read.result t (mark (suc c.args.number) c.args.second.now) (plain t) c.args.stack.now c.hold_plain.new.stack refl holds c.behind_argument-read.ensures c.in_default.not-Unread
