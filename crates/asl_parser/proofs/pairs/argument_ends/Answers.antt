use Rattle.std.proofs.Common.{suc, Bool, subst, sym, refl, ◌∙◌}
use Rattle.asl_syntax.specs.Marks.{mark}
use Rattle.asl_parser.specs.Pairs.{plain, AddsNode}
use Rattle.asl_parser.specs.Stages.{state_of}
use Rattle.asl_parser.proofs.Skipped.{argument_ends_over}
use Rattle.asl_parser.proofs.pairs.argument_ends.Goals as goal

pub returns-then-branch-clause-passes : goal.returns-then-branch-clause-passes
returns-then-branch-clause-passes c =
    let t = mark c.args.number c.args.first.now in
    let adds = subst (λ (b : Bool). AddsNode b (plain t) c.args.stack.now c.add_plain.new.stack) c.if-branch.true c.in_ok-add_plain.ensures in
    rw c.set_called.ensures (argument_ends_over t (mark (suc c.args.number) c.args.second.now) (state_of c.args.stage.now c.args.stack.now.0) (plain t) c.args.stack.now c.add_plain.new.stack c.end.new.self c.in-Args.spot c.in-Args.word refl adds c.requires.begins c.requires.args c.requires.end (sym c.end.ensures.kind ∙ c.in-Args.is) c.end.ensures.stack)
