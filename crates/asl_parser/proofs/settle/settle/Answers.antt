use Rattle.std.proofs.Common.{List, ap, sym, ◌∙◌}
use Rattle.asl_syntax.specs.declared.subtree.Subtree.{Subtree}
use Rattle.asl_syntax.specs.declared.frame.Frame.{Frame}
use Rattle.asl_parser.specs.Machine.{settle}
use Rattle.asl_syntax.specs.Opens.{tree_of}
use Rattle.asl_parser.proofs.Settled.{settled, settles}
use Rattle.asl_parser.proofs.settle.settle.Goals as goal

pub loop-stack-preserved : goal.loop-stack-preserved
loop-stack-preserved c =
    let once = settles c.args.pull (tree_of c.loop-stack.stack.0) c.loop-stack.stack.1 (sym c.binds.ensures ∙ c.loop-stack-test.true) in
    record { same = ap (λ (r : Subtree × List Frame). settle c.args.pull r.0 r.1) c.in_ok-apply.ensures.stack ∙ once ∙ c.loop-stack.invariant.same; one = c.in_ok-apply.ensures.one }

pub returns-clause-stack : goal.returns-clause-stack
returns-clause-stack c = sym (settled c.args.pull (tree_of c.loop-stack.stack.0) c.loop-stack.stack.1 (sym c.binds.ensures ∙ c.loop-stack-test.false)) ∙ c.loop-stack.invariant.same
