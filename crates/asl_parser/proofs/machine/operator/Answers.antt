use Rattle.std.proofs.Common.{List, ap, arith}
use Rattle.asl_syntax.specs.declared.subtree.Subtrees.{Subtrees}
use Rattle.asl_syntax.specs.declared.frame.Frame.{Frame}
use Rattle.asl_parser.specs.Machine.{settle}
use Rattle.asl_syntax.specs.Opens.{tree_of}
use Rattle.asl_parser.proofs.Settled.{operator_opens}
use Rattle.asl_parser.proofs.machine.operator.Goals as goal

pub returns : goal.returns
returns c = rw c.set_operand.ensures (
  operator_opens c.args.spot c.args.op c.args.strength c.settle.new.stack c.open.new.self (settle c.args.strength.pull (tree_of c.args.stack.now.0) c.args.stack.now.1) c.in_ok-settle.ensures.stack c.in_ok-settle.ensures.one (omega (arith, c.if-room-strength.false, c.room.ensures)) c.in_ok-open.ensures,
  ap (λ (v : Subtrees × List Frame). v.0) c.in_ok-open.ensures,
)
