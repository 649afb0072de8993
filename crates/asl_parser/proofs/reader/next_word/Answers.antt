use Rattle.std.proofs.Common.{◌≡◌, ◌+◌, true, Some, None, Err, refl, sym, ◌∙◌, subst, arith}
use Rattle.asl_parser.specs.declared.state.ParserState.TheVariants as st
use Rattle.asl_parser.specs.declared.state.Refusal.{Refusal}
use Rattle.asl_syntax.specs.Grow.{limit}
use Rattle.asl_parser.specs.Machine.{Config}
use Rattle.asl_syntax.specs.Marks.{mark, marks, is_word}
use Rattle.asl_parser.specs.Stages.{BeginsNext, state_of}
use Rattle.asl_parser.proofs.Calling.{advances_behind, fails_behind}
use Rattle.asl_parser.proofs.Next.{word_steps}
use Rattle.asl_parser.proofs.Onward.{comes_on}
use Rattle.asl_parser.proofs.Walks.{length-marks, walk_refused}
use Rattle.asl_parser.proofs.reader.next_word.Goals as goal

pub returns-in-Err-Refused-clause-fails : goal.returns-in-Err-Refused-clause-fails
returns-in-Err-Refused-clause-fails c =
    let a = c.args in let t = c.index-tokens-at.result in let p = (mark a.at t).spot in let made = c.in-Err-Refused in
    let before : Config = (state_of a.stage.now a.stack.now.0, a.stack.now.1) in
    let is : is_word t.kind ≡ true = sym c.is_word.ensures ∙ c.if-not-is_word.false in
    let refused = subst (λ (x : Refusal). BeginsNext (Err x) before c.end_expression.new.stack) made.field-0-is made.ensures.next in
    let none = word_steps t.kind t.number t.text p before.0 before.1 None is (λ path. refused p path t.text) in (
      omega (arith, length-marks 0 a.tokens.now, c.requires.within),
      walk_refused limit a.tokens.now a.at t (mark a.at t) before.0 before.1 (omega (arith, c.requires.within)) c.index-tokens-at.is refl c.requires.low none,
    )

pub returns-clause-advances : goal.returns-clause-advances
returns-clause-advances c =
    let a = c.args in let t = c.index-tokens-at.result in let new = c.behind_word.new in let p = (mark a.at t).spot in let next = c.in-Ok.ensures.next in
    let before : Config = (state_of a.stage.now a.stack.now.0, a.stack.now.1) in let word : Config = (st.Word p t.text, c.end_expression.new.stack.1) in let now : Config = (state_of new.stage new.stack.0, new.stack.1) in
    let is : is_word t.kind ≡ true = sym c.is_word.ensures ∙ c.if-not-is_word.false in
    let moved = word_steps t.kind t.number t.text p before.0 before.1 (Some word) is (λ path. next.2 p path t.text) in
    let comes = comes_on a.tokens.now a.at t before before word c.requires.within c.index-tokens-at.is refl c.requires.low moved next.1 in
    advances_behind (marks 0 a.tokens.now) a.at (a.at + 1) before word now c.behind_word.result comes c.behind_word.ensures.advances

pub returns-clause-fails : goal.returns-clause-fails
returns-clause-fails c =
    let a = c.args in let t = c.index-tokens-at.result in let p = (mark a.at t).spot in let next = c.in-Ok.ensures.next in
    let before : Config = (state_of a.stage.now a.stack.now.0, a.stack.now.1) in let word : Config = (st.Word p t.text, c.end_expression.new.stack.1) in
    let is : is_word t.kind ≡ true = sym c.is_word.ensures ∙ c.if-not-is_word.false in
    let moved = word_steps t.kind t.number t.text p before.0 before.1 (Some word) is (λ path. next.2 p path t.text) in
    let comes = comes_on a.tokens.now a.at t before before word c.requires.within c.index-tokens-at.is refl c.requires.low moved next.1 in
    fails_behind (marks 0 a.tokens.now) a.at (a.at + 1) before word c.behind_word.result comes c.behind_word.ensures.fails
