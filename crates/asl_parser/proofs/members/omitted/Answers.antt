use Rattle.std.proofs.Common.{ap, subst, sym, ◌∙◌}
use Rattle.asl_syntax.specs.declared.subtree.Subtree.{Subtree}
use Rattle.asl_syntax.specs.declared.raw.Raw.TheVariants as raw
use Rattle.asl_syntax.specs.Grow.{leaf}
use Rattle.asl_parser.specs.Machine.{listed}
use Rattle.asl_syntax.specs.Looks.{lexeme_of}
use Rattle.asl_parser.specs.Stages.{StepsTo}
use Rattle.asl_parser.proofs.Settled.{omits}
use Rattle.asl_parser.proofs.members.omitted.Goals as goal

pub returns-in_ok-hold-in-Args : goal.returns-in_ok-hold-in-Args
returns-in_ok-hold-in-Args c =
    let held = c.in_ok-hold-in-Args.ensures in let x = lexeme_of c.args.look c.args.token.now in let e = leaf c.args.spot.token raw.Empty in
    let move = ap (λ (b : Subtree). listed b x c.hold.new.self.1) held.tree ∙ ap (listed e x) held.frames
    ∙ omits e x c.args.stack.now.1 c.in-Args.spot c.in-Args.word (sym c.kind.ensures ∙ c.in-Args.is) in
    subst (StepsTo c.argued.result c.argued.new.stage c.argued.new.stack) move c.argued.ensures
