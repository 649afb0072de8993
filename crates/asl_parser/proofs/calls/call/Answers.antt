use Rattle.std.proofs.Common.{List, ap}
use Rattle.asl_syntax.specs.declared.subtree.Subtrees.{Subtrees}
use Rattle.asl_syntax.specs.declared.frame.Frame.{Frame}
use Rattle.asl_syntax.specs.Marks.{mark, marks}
use Rattle.asl_parser.proofs.Calling.{closed_over, open_over, open_holds}
use Rattle.asl_parser.proofs.calls.call.Goals as goal

pub returns-in-Closed-clause-passes : goal.returns-in-Closed-clause-passes
returns-in-Closed-clause-passes c =
    let t = c.args.first.now in
    rw c.set_called.ensures (closed_over (marks 0 c.args.tokens.now) c.args.from c.in_ok-next.next c.in_ok-next.read c.args.stack.now c.hold_arguments.new.stack (mark c.args.number t).spot t.text c.in_ok-word.word c.in_ok-next.ensures c.in-Closed.is c.requires.none c.in_ok-word.ensures)

pub returns-clause-passes : goal.returns-clause-passes
returns-clause-passes c =
    let t = c.args.first.now in
    open_over (marks 0 c.args.tokens.now) c.args.from c.in_ok-next.next c.in_ok-next.read c.args.stack.now c.hold_arguments.new.stack c.open.new.self (mark c.args.number t).spot t.text c.in_ok-word.word c.stage_of.result c.in_ok-next.ensures c.in_default.not-Closed c.requires.none c.in_ok-word.ensures c.stage_of.ensures c.in_ok-open.ensures

pub returns-clause-holds : goal.returns-clause-holds
returns-clause-holds c = open_holds c.in_ok-next.read c.stage_of.result c.open.new.self.0 c.stage_of.ensures (ap (λ (v : Subtrees × List Frame). v.0) c.in_ok-open.ensures)
