use Rattle.std.proofs.Common.{◌≡◌, suc, ◌+◌, true, [], ◌∷◌, sym, ◌∙◌, arith}
use Rattle.asl_parser.specs.declared.state.ParserState.TheVariants as st
use Rattle.asl_parser.specs.Machine.{Config}
use Rattle.asl_syntax.specs.Marks.{mark, marks, is_word}
use Rattle.asl_parser.specs.Stages.{state_of, begins}
use Rattle.asl_parser.proofs.Calling.{advances_behind, fails_behind}
use Rattle.asl_parser.proofs.Onward.{pair_on, unread, word_begins, comes_on}
use Rattle.asl_parser.proofs.reader.ahead.Goals as goal

pub returns-in-Ok-true-clause-advances : goal.returns-in-Ok-true-clause-advances
returns-in-Ok-true-clause-advances c =
    let a = c.args in let before : Config = (state_of a.stage.now a.stack.now.0, a.stack.now.1) in let now : Config = (state_of c.skip_pair.new.stage c.skip_pair.new.stack.0, c.skip_pair.new.stack.1) in
    pair_on a.tokens.now a.at c.index-tokens-at.result c.index-tokens-at-2.result c.in-Ok-true.field-0 before now c.requires.within c.index-tokens-at.is c.index-tokens-at-2.is c.in-Ok-true.field-0-test c.requires.low c.in-Ok-true.ensures.passes

pub returns-then-begins-clause-advances : goal.returns-then-begins-clause-advances
returns-then-begins-clause-advances c =
    let a = c.args in let t = c.index-tokens-at.result in let u = c.index-tokens-at-2.result in let new = c.behind_word.new in let p = (mark a.at t).spot in
    let before : Config = (state_of a.stage.now a.stack.now.0, a.stack.now.1) in let here : Config = (state_of c.skip_pair.new.stage c.skip_pair.new.stack.0, c.skip_pair.new.stack.1) in let word : Config = (st.Word p t.text, c.skip_pair.new.stack.1) in
    let now : Config = (state_of new.stage new.stack.0, new.stack.1) in
    let same = unread c.in-Ok-false.field-0 (mark a.at t ∷ mark (suc a.at) u ∷ []) before here c.in-Ok-false.field-0-test c.in-Ok-false.ensures.passes in
    let is : is_word t.kind ≡ true = sym c.is_word.ensures ∙ c.if-is_word.true in
    let may : begins c.skip_pair.new.stage ≡ true = sym c.begins.ensures ∙ c.if-begins.true in
    let moved = word_begins t.kind t.number t.text c.skip_pair.new.stage c.skip_pair.new.stack.0 p c.skip_pair.new.stack.1 is may in
    let comes = comes_on a.tokens.now a.at t before here word c.requires.within c.index-tokens-at.is same c.requires.low moved (omega arith) in
    advances_behind (marks 0 a.tokens.now) a.at (a.at + 1) before word now c.behind_word.result comes c.behind_word.ensures.advances

pub returns-then-begins-clause-fails : goal.returns-then-begins-clause-fails
returns-then-begins-clause-fails c =
    let a = c.args in let t = c.index-tokens-at.result in let u = c.index-tokens-at-2.result in let p = (mark a.at t).spot in
    let before : Config = (state_of a.stage.now a.stack.now.0, a.stack.now.1) in let here : Config = (state_of c.skip_pair.new.stage c.skip_pair.new.stack.0, c.skip_pair.new.stack.1) in let word : Config = (st.Word p t.text, c.skip_pair.new.stack.1) in
    let same = unread c.in-Ok-false.field-0 (mark a.at t ∷ mark (suc a.at) u ∷ []) before here c.in-Ok-false.field-0-test c.in-Ok-false.ensures.passes in
    let is : is_word t.kind ≡ true = sym c.is_word.ensures ∙ c.if-is_word.true in
    let may : begins c.skip_pair.new.stage ≡ true = sym c.begins.ensures ∙ c.if-begins.true in
    let moved = word_begins t.kind t.number t.text c.skip_pair.new.stage c.skip_pair.new.stack.0 p c.skip_pair.new.stack.1 is may in
    let comes = comes_on a.tokens.now a.at t before here word c.requires.within c.index-tokens-at.is same c.requires.low moved (omega arith) in
    fails_behind (marks 0 a.tokens.now) a.at (a.at + 1) before word c.behind_word.result comes c.behind_word.ensures.fails
