use Rattle.std.proofs.Common.{◌≡◌, List, length, arith, ap, sym, ◌∙◌, subst, Err}
use Rattle.std.proofs.lemmas.List.{drop_all}
use Rattle.asl_syntax.specs.declared.subtree.Subtrees.{Subtrees}
use Rattle.asl_syntax.specs.declared.frame.Frame.{Frame}
use Rattle.asl_parser.specs.declared.state.ParserState.TheVariants as st
use Rattle.asl_syntax.specs.declared.mark.Mark.{Mark}
use Rattle.asl_syntax.specs.Grow.{limit}
use Rattle.asl_syntax.specs.Marks.{marks}
use Rattle.asl_parser.specs.Parse.{EndsIn}
use Rattle.asl_parser.specs.Stages.{state_of}
use Rattle.asl_syntax.specs.Frames.{depth, start}
use Rattle.asl_parser.specs.Machine.{finish, walk, within, reading, stop}
use Rattle.asl_parser.proofs.Walks.{length-marks, walk_ends, finishes_refused}
use Rattle.asl_parser.proofs.reader.read.Goals as goal

begins : (ms : List Mark) (fs : List Frame) → fs ≡ start → walk (within limit) ms st.Sequence fs ≡ reading ms
unfolding reading
begins ms fs e = ap (walk (within limit) ms st.Sequence) e

pub loop-at-init : goal.loop-at-init
loop-at-init c =
    let is : c.new-stack.result.1 ≡ start = ap (λ (v : Subtrees × List Frame). v.1) c.new-stack.ensures in
    record { same = begins (marks 0 c.args.tokens.now) c.new-stack.result.1 is; low = omega (arith, ap depth is); holds = ap (λ (v : Subtrees × List Frame). v.0) c.new-stack.ensures }

pub loop-at-preserved : goal.loop-at-preserved
loop-at-preserved c =
    let on = c.in-Ok.ensures.advances in
    record { same = sym on.3 ∙ c.loop-at.invariant.same; low = on.2; holds = c.in-Ok.ensures.holds }

pub returns-in-Err : goal.returns-in-Err
returns-in-Err c = subst (EndsIn (Err c.in-Err.fault) (marks 0 c.args.tokens.now)) c.loop-at.invariant.same c.in-Err.ensures.fails

pub returns-in-Ok-finish : goal.returns-in-Ok-finish
returns-in-Ok-finish c =
    let l = c.loop-at in
    sym l.invariant.same ∙ walk_ends limit (marks 0 c.args.tokens.now) l.at (state_of l.stage l.stack.0) l.stack.1 (omega (arith, length-marks 0 c.args.tokens.now)) l.invariant.low ∙ c.in-Ok-finish.ensures

pub returns-in-Err-Refused : goal.returns-in-Err-Refused
returns-in-Err-Refused c =
    let l = c.loop-at in let ms = marks 0 c.args.tokens.now in let state = state_of l.stage l.stack.0 in
    let refused = finishes_refused c.in-Err-Refused.field-0 (finish state l.stack.1) c.in-Err-Refused.field-0-is c.in-Err-Refused.ensures in (
      omega (arith, length-marks 0 c.args.tokens.now),
      sym l.invariant.same ∙ walk_ends limit ms l.at state l.stack.1 (omega (arith, length-marks 0 c.args.tokens.now)) l.invariant.low
          ∙ refused ∙ ap stop (sym (drop_all (length c.args.tokens.now) ms (omega (arith, length-marks 0 c.args.tokens.now)))),
    )
