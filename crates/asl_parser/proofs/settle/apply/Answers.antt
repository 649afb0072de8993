use Rattle.std.proofs.Common.{sym, ◌∙◌}
use Rattle.asl_syntax.specs.Opens.{tree_of}
use Rattle.asl_parser.proofs.Settled.{applied_top}
use Rattle.asl_parser.proofs.settle.apply.Goals as goal

pub returns-in_ok-apply-clause-stack : goal.returns-in_ok-apply-clause-stack
returns-in_ok-apply-clause-stack c =
    let p = c.in-Pending in
    applied_top (tree_of c.args.stack.now.0) (tree_of c.apply.new.self.0) c.args.stack.now.1 c.apply.new.self.1 p.level p.room p.spot p.op c.leading-first.result c.end_with.new.self (sym c.kind.ensures ∙ p.is) c.leading-first.ensures c.in_ok-end_with.ensures.stack c.in_ok-apply.ensures.tree c.in_ok-apply.ensures.frames
