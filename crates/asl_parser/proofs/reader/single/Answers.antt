use Rattle.asl_syntax.specs.Frames.{depth}
use Rattle.asl_parser.specs.Machine.{Config, step}
use Rattle.asl_syntax.specs.Marks.{mark}
use Rattle.asl_parser.specs.Stages.{state_of}
use Rattle.asl_parser.proofs.Onward.{comes_here, on_advances, on_fails, on_holds}
use Rattle.asl_parser.proofs.reader.single.Goals as goal

pub returns-clause-advances : goal.returns-clause-advances
returns-clause-advances c =
    let a = c.args in let before : Config = (state_of a.stage.now a.stack.now.0, a.stack.now.1) in
    on_advances a.tokens.now a.at a.at a.token.now c.step-made.result c.moved.result before before c.step-made.new.stage c.step-made.new.stack (comes_here a.tokens.now a.at before c.requires.within c.requires.low) c.requires.token c.step-made.ensures c.moved.ensures

pub returns-clause-holds : goal.returns-clause-holds
returns-clause-holds c =
    let a = c.args in let new = c.step-made.new.stack in
    on_holds c.step-made.result c.moved.result c.step-made.new.stage new (step (mark a.at a.token.now) (state_of a.stage.now a.stack.now.0) a.stack.now.1) (depth new.1) a.at c.step-made.ensures c.moved.ensures

pub returns-clause-fails : goal.returns-clause-fails
returns-clause-fails c =
    let a = c.args in let before : Config = (state_of a.stage.now a.stack.now.0, a.stack.now.1) in
    on_fails a.tokens.now a.at a.at a.token.now c.step-made.result c.moved.result before before c.step-made.new.stage c.step-made.new.stack (comes_here a.tokens.now a.at before c.requires.within c.requires.low) c.requires.token c.step-made.ensures c.moved.ensures
