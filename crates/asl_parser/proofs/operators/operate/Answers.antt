use Rattle.std.proofs.Common.{◌+◌, ◌≤◌, refl, sym, ◌∙◌, arith}
use Rattle.asl_syntax.specs.Frames.{room}
use Rattle.asl_syntax.specs.Marks.{mark}
use Rattle.asl_parser.specs.Pairs.{plain}
use Rattle.asl_parser.proofs.Operating.{operated, refused}
use Rattle.asl_parser.proofs.operators.operate.Goals as goal

pub returns-then-room-strength : goal.returns-then-room-strength
returns-then-room-strength c =
    let t = c.args.sign.now in let op = c.args.op in
    refused (mark c.args.number t) op c.in-Some.strength c.args.stack.now c.settle.new.stack c.requires.sign (sym c.in-Some.ensures) c.in_ok-settle.ensures.stack (omega (arith, c.if-room-strength.true, c.room.ensures))

pub returns : goal.returns
returns c =
    let a = c.args in let t = a.sign.now in let op = c.args.op in let u = mark (a.number + 1) a.operand.now in
    let high : c.in-Some.strength.level ≤ room c.settle.new.stack.1 = omega (arith, c.if-room-strength.false, c.room.ensures) in
    operated (mark a.number t) u (mark (a.number + 2) a.next.now) (plain u) op c.in-Some.strength a.stack.now c.settle.new.stack c.apply_plain.new.stack c.requires.low c.requires.sign (sym c.in-Some.ensures) (sym c.applies.ensures ∙ c.if-not-applies.false) c.in_ok-settle.ensures.one c.in_ok-settle.ensures.stack high refl c.in_ok-apply_plain.ensures
