use Rattle.std.proofs.Common.{◌≡◌, ◌∷◌, ◌+◌, ◌∙◌, ap, sym, true, arith}
use Rattle.asl_preprocess.specs.Rows.{Directive, Between, file_lines, rows_from, begins_directive, continued}
use Rattle.asl_preprocess.proofs.Joined.{directive_first, joined_by}
use Rattle.asl_preprocess.proofs.rows.Rows.next.Goals as goal

pub returns-then-begins_directive-clause-row : goal.returns-then-begins_directive-clause-row
returns-then-begins_directive-clause-row c =
    let old = c.args.self.now in
    let mid = c.next_line.new.self in
    let new = c.join.new.self in
    let text = c.in_ok-text.text.items in
    let on : old.enabled ≡ true = sym c.in-Some.ensures.enabled ∙ c.if-self.true in
    let begins : begins_directive old.in_comment c.in-Some.whole.now ≡ true = sym (ap (λ b. begins_directive b c.in-Some.whole.now) c.in-Some.ensures.in_comment) ∙ sym c.begins_directive.ensures ∙ c.if-begins_directive.true in
    let number : mid.number ≡ old.number + 1 = c.in-Some.ensures.number in
    let later : mid.number + 1 ≡ old.number + 1 + 1 = omega arith in
    directive_first old.enabled old.in_comment (old.number + 1) (mid.number + 1) (file_lines old.rest.now) (file_lines mid.rest.now) c.in-Some.whole.now on begins c.in-Some.ensures.line later
    ∙ ap (λ b. joined_by b (mid.number + 1) (file_lines mid.rest.now) (old.number + 1) c.in-Some.whole.now (continued c.in-Some.whole.now)) (sym c.in-Some.ensures.enabled)
    ∙ ap (λ k. joined_by mid.enabled (mid.number + 1) (file_lines mid.rest.now) k c.in-Some.whole.now (continued c.in-Some.whole.now)) (sym number)
    ∙ c.in_ok-text.ensures.joined mid.number
    ∙ ap (λ b. Directive mid.number text ∷ rows_from new.enabled (Between b) (new.number + 1) (file_lines new.rest.now)) (sym c.in_ok-text.ensures.in_comment)
