use Rattle.std.proofs.Common.{◌≡◌, ℕ, suc, ◌+◌, refl, sym, ap, ◌∙◌, subst, arith}
use Rattle.asl_parser.specs.declared.state.ParserState.TheVariants as st
use Rattle.asl_syntax.specs.declared.mark.Look.{Look}
use Rattle.asl_syntax.specs.Looks.{lexeme_of}
use Rattle.asl_parser.specs.Machine.{Config, step}
use Rattle.asl_syntax.specs.Marks.{mark, marks}
use Rattle.asl_parser.specs.Stages.{StepsTo, state_of}
use Rattle.asl_parser.proofs.Calling.{call_on, advances_behind, fails_behind}
use Rattle.asl_parser.proofs.Operating.{word_held}
use Rattle.asl_parser.proofs.Onward.{comes_here, on_advances, on_fails}
use Rattle.asl_parser.proofs.reader.behind_word.Goals as goal

pub returns-in-Ok-clause-advances : goal.returns-in-Ok-clause-advances
returns-in-Ok-clause-advances c =
    let a = c.args in let t = a.first.now in let u = a.second.now in let new = c.call.new in
    let now : Config = (state_of new.stage new.stack.0, new.stack.1) in
    let paren = sym c.requires.look ∙ ap (λ (x : Look). lexeme_of x u) (c.if-opens_call.ensures.paren refl) in
    call_on a.tokens.now (a.at + 1) (a.at + 2) c.in-Ok.next u (mark a.at t).spot t.text a.stack.now.1 now c.requires.within c.requires.second paren c.requires.low (omega arith) c.in-Ok.ensures.passes

pub returns-in-Ok-hold_word-clause-advances : goal.returns-in-Ok-hold_word-clause-advances
returns-in-Ok-hold_word-clause-advances c =
    let a = c.args in let t = a.first.now in let p = (mark a.at t).spot in let held = c.hold_word.new in let told = c.in-Ok-hold_word.ensures in
    let word : Config = (st.Word p t.text, a.stack.now.1) in let here : Config = (state_of held.stage held.stack.0, held.stack.1) in
    let comes = word_held a.tokens.now (a.at + 1) a.look a.second.now p t.text held.stage a.stack.now held.stack c.requires.within c.requires.second (c.is_operator.ensures c.if-is_operator.true) c.requires.look c.requires.low told.stage told.tree told.frames in
    advances_behind (marks 0 a.tokens.now) (a.at + 1) (a.at + 1) word here (state_of c.operated.new.stage c.operated.new.stack.0, c.operated.new.stack.1) c.operated.result comes c.operated.ensures.advances

pub returns-in-Ok-hold_word-clause-fails : goal.returns-in-Ok-hold_word-clause-fails
returns-in-Ok-hold_word-clause-fails c =
    let a = c.args in let t = a.first.now in let p = (mark a.at t).spot in let held = c.hold_word.new in let told = c.in-Ok-hold_word.ensures in
    let word : Config = (st.Word p t.text, a.stack.now.1) in let here : Config = (state_of held.stage held.stack.0, held.stack.1) in
    let comes = word_held a.tokens.now (a.at + 1) a.look a.second.now p t.text held.stage a.stack.now held.stack c.requires.within c.requires.second (c.is_operator.ensures c.if-is_operator.true) c.requires.look c.requires.low told.stage told.tree told.frames in
    fails_behind (marks 0 a.tokens.now) (a.at + 1) (a.at + 1) word here c.operated.result comes c.operated.ensures.fails

pub returns-clause-advances : goal.returns-clause-advances
returns-clause-advances c =
    let a = c.args in let t = a.first.now in let u = a.second.now in let new = c.word_on-made.new in
    let word : Config = (st.Word (mark a.at t).spot t.text, a.stack.now.1) in
    let next : suc a.at ≡ a.at + 1 = omega arith in
    let made = subst (λ (n : ℕ). StepsTo c.word_on-made.result new.stage new.stack (step (mark n u) word.0 word.1)) next c.word_on-made.ensures in
    on_advances a.tokens.now (a.at + 1) (a.at + 1) u c.word_on-made.result c.moved.result word word new.stage new.stack (comes_here a.tokens.now (a.at + 1) word c.requires.within c.requires.low) c.requires.second made c.moved.ensures

pub returns-clause-fails : goal.returns-clause-fails
returns-clause-fails c =
    let a = c.args in let t = a.first.now in let u = a.second.now in let new = c.word_on-made.new in
    let word : Config = (st.Word (mark a.at t).spot t.text, a.stack.now.1) in
    let next : suc a.at ≡ a.at + 1 = omega arith in
    let made = subst (λ (n : ℕ). StepsTo c.word_on-made.result new.stage new.stack (step (mark n u) word.0 word.1)) next c.word_on-made.ensures in
    on_fails a.tokens.now (a.at + 1) (a.at + 1) u c.word_on-made.result c.moved.result word word new.stage new.stack (comes_here a.tokens.now (a.at + 1) word c.requires.within c.requires.low) c.requires.second made c.moved.ensures
