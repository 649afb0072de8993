use Rattle.std.proofs.Common.{true, refl}
use Rattle.asl_syntax.specs.Marks.{mark}
use Rattle.asl_parser.specs.Pairs.{plain}
use Rattle.asl_parser.proofs.Operating.{applies_node}
use Rattle.asl_parser.proofs.operators.apply_plain.Goals as goal

pub returns : goal.returns
returns c =
    applies_node true (plain (mark c.args.number c.args.operand.now)) c.args.spot c.args.op c.leading_held-first.result c.args.stack.now c.hold_leaf.new.stack c.apply.new.self refl c.in_ok-hold_leaf.ensures c.leading_held-first.ensures c.in_ok-apply.ensures.tree c.in_ok-apply.ensures.one c.in_ok-apply.ensures.frames
