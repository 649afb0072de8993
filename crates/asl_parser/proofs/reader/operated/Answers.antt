use Rattle.std.proofs.Common.{◌≡◌, ◌+◌, None, Err, refl, sym, ap, ◌∙◌, subst, arith}
use Rattle.asl_parser.specs.declared.state.ParserState.TheVariants as st
use Rattle.asl_parser.specs.declared.state.Refusal.{Refusal}
use Rattle.asl_syntax.specs.declared.mark.Look.{Look}
use Rattle.asl_parser.specs.declared.stage.Stage.{Stage}
use Rattle.asl_syntax.specs.Grow.{limit}
use Rattle.asl_syntax.specs.Looks.{lexeme_of}
use Rattle.asl_parser.specs.Machine.{step}
use Rattle.asl_syntax.specs.Marks.{mark, marks}
use Rattle.asl_syntax.specs.Opens.{tree_of}
use Rattle.asl_parser.specs.Operating.{MayOperate}
use Rattle.asl_parser.specs.Reading.{Advances}
use Rattle.asl_parser.specs.Stages.{state_of, Holds}
use Rattle.asl_parser.proofs.Operating.{operated_so, operated_on, one_held}
use Rattle.asl_parser.proofs.Walks.{length-marks, walk_refused}
use Rattle.asl_parser.proofs.reader.operated.Goals as goal

pub operate-requires-clause-one : goal.operate-requires-clause-one
operate-requires-clause-one c = one_held c.args.stage.now c.args.stack.now.0 c.requires.whole c.requires.holds

pub operate-requires-clause-sign : goal.operate-requires-clause-sign
operate-requires-clause-sign c = sym c.requires.look ∙ ap (λ (look : Look). lexeme_of look c.args.token.now) c.in-Some.ensures.operator

pub returns-in-Ok-true-clause-advances : goal.returns-in-Ok-true-clause-advances
returns-in-Ok-true-clause-advances c =
    let a = c.args in let t = a.token.now in let u = c.index-tokens-at.result in let v = c.index-tokens-at-2.result in
    let old = a.stack.now in let new = c.operate.new.stack in
    let read = operated_so c.in-Ok-true.field-0 (mark a.at t) (mark (a.at + 1) u) (mark (a.at + 2) v) old new c.in-Ok-true.field-0-test c.in-Ok-true.ensures in
    let on = operated_on a.tokens.now a.at t u v (st.Whole (tree_of old.0), old.1) (st.Whole (tree_of new.0), new.1) (omega (arith, c.in-Some.ensures.left)) c.requires.token c.index-tokens-at.is c.index-tokens-at-2.is read.1 in
    subst (λ (s : Stage). Advances (marks 0 a.tokens.now) a.at (a.at + 2) (state_of s old.0, old.1) (state_of s new.0, new.1)) (sym c.requires.whole) on

pub returns-in-Ok-true-clause-holds : goal.returns-in-Ok-true-clause-holds
returns-in-Ok-true-clause-holds c =
    let a = c.args in let t = a.token.now in let u = c.index-tokens-at.result in let v = c.index-tokens-at-2.result in
    let read = operated_so c.in-Ok-true.field-0 (mark a.at t) (mark (a.at + 1) u) (mark (a.at + 2) v) a.stack.now c.operate.new.stack c.in-Ok-true.field-0-test c.in-Ok-true.ensures in
    subst (λ (s : Stage). Holds s c.operate.new.stack.0) (sym c.requires.whole) read.0

pub returns-in-Err-Refused-clause-fails : goal.returns-in-Err-Refused-clause-fails
returns-in-Err-Refused-clause-fails c =
    let a = c.args in let t = a.token.now in let u = c.index-tokens-at.result in let v = c.index-tokens-at-2.result in let made = c.in-Err-Refused in
    let old = a.stack.now in
    let refused = subst (λ (x : Refusal). MayOperate (Err x) (mark a.at t) (mark (a.at + 1) u) (mark (a.at + 2) v) old c.operate.new.stack) made.field-0-is made.ensures in
    let none = subst (λ (s : Stage). step (mark a.at t) (state_of s old.0) old.1 ≡ None) (sym c.requires.whole) refused in (
      omega (arith, length-marks 0 a.tokens.now, c.requires.within),
      walk_refused limit a.tokens.now a.at t (mark a.at t) (state_of a.stage.now old.0) old.1 (omega (arith, c.requires.within)) c.requires.token refl c.requires.low none,
    )
