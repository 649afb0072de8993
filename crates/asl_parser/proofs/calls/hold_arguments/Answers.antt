use Rattle.std.proofs.Common.{suc, List, [], ◌∷◌, refl, sym, subst, arith}
use Rattle.asl_parser.specs.declared.calls.Arguments.{Arguments}
use Rattle.asl_parser.specs.declared.calls.Arguments.TheVariants as a
use Rattle.asl_syntax.specs.declared.subtree.Subtrees.{Subtrees}
use Rattle.asl_syntax.specs.declared.frame.Frame.{Frame}
use Rattle.asl_parser.specs.Calls.{HoldsArgument, Reads}
use Rattle.asl_syntax.specs.Marks.{mark, marks}
use Rattle.asl_parser.proofs.Calling.{unread_on, reads_none, reads_on}
use Rattle.asl_parser.proofs.calls.hold_arguments.Goals as goal

pub loop-at-init : goal.loop-at-init
loop-at-init c = record { within = c.requires.within; go = refl; reads = reads_none c.args.tokens.now c.args.from c.args.stack.now c.requires.within c.requires.low }

pub returns-in-Unread : goal.returns-in-Unread
returns-in-Unread c =
    let l = c.loop-at in let ms = mark l.at c.index-tokens-at.result ∷ mark (suc l.at) c.index-tokens-at-in-loop-at.result ∷ [] in
    let same = unread_on c.in_ok-hold_argument.field-0 ms l.stack c.hold_argument.new.stack c.in-Unread.is c.in_ok-hold_argument.ensures in
    subst (λ (v : Subtrees × List Frame). Reads (marks 0 c.args.tokens.now) c.args.from l.at l.read c.args.stack.now v) (sym same) l.invariant.reads

pub returns-in-Closed : goal.returns-in-Closed
returns-in-Closed c =
    let l = c.loop-at in let t = c.index-tokens-at.result in let u = c.index-tokens-at-in-loop-at.result in
    let holds = subst (λ (r : Arguments). HoldsArgument r (mark l.at t ∷ mark (suc l.at) u ∷ []) l.stack c.hold_argument.new.stack) c.in-Closed.is c.in_ok-hold_argument.ensures in
    reads_on c.args.tokens.now c.args.from l.at t u l.read a.Closed c.args.stack.now l.stack c.hold_argument.new.stack (omega arith) c.index-tokens-at.is c.index-tokens-at-in-loop-at.is l.invariant.go l.invariant.reads holds

pub loop-at-preserved : goal.loop-at-preserved
loop-at-preserved c =
    let l = c.loop-at in let t = c.index-tokens-at.result in let u = c.index-tokens-at-in-loop-at.result in
    let holds = subst (λ (r : Arguments). HoldsArgument r (mark l.at t ∷ mark (suc l.at) u ∷ []) l.stack c.hold_argument.new.stack) c.in-Open.is c.in_ok-hold_argument.ensures in
    record { within = omega arith; go = refl; reads = reads_on c.args.tokens.now c.args.from l.at t u l.read a.Open c.args.stack.now l.stack c.hold_argument.new.stack (omega arith) c.index-tokens-at.is c.index-tokens-at-in-loop-at.is l.invariant.go l.invariant.reads holds }
