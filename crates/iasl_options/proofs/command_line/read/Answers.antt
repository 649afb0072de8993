use Rattle.std.proofs.Common.{ap, ◌∙◌, sym, string_bytes}
use Rattle.iasl_options.specs.Asking.{one_more, Behind}
use Rattle.iasl_options.specs.Shown.{asked_in, stepped}
use Rattle.iasl_options.proofs.Steps.{spoilt, goes_on}
use Rattle.iasl_options.proofs.command_line.read.Goals as goal

pub returns-in-Spoilt : goal.returns-in-Spoilt
returns-in-Spoilt c =
    let before : Behind = record { asked = asked_in c.loop-number.draft; waiting = c.loop-number.waiting } in
    let word = ap (λ w. one_more before before.waiting (string_bytes w)) (sym c.index-words-number.is) in
    let step = c.in_ok-next.ensures ∙ ap (λ s. stepped s (asked_in c.one_more.new.self)) c.in-Spoilt.is in
    spoilt c.loop-number.number before c.args.words.now c.index-words-number.result _ c.loop-number-test.true (word ∙ ap (one_more before before.waiting) (sym c.as_bytes.ensures.value) ∙ step) c.loop-number.invariant

pub loop-number-preserved : goal.loop-number-preserved
loop-number-preserved c =
    let before : Behind = record { asked = asked_in c.loop-number.draft; waiting = c.loop-number.waiting } in
    let after : Behind = record { asked = asked_in c.one_more.new.self; waiting = c.in-Next.next } in
    let word = ap (λ w. one_more before before.waiting (string_bytes w)) (sym c.index-words-number.is) in
    let step = c.in_ok-next.ensures ∙ ap (λ s. stepped s (asked_in c.one_more.new.self)) c.in-Next.is in
    goes_on c.loop-number.number before after c.args.words.now c.index-words-number.result _ c.loop-number-test.true (word ∙ ap (one_more before before.waiting) (sym c.as_bytes.ensures.value) ∙ step) c.loop-number.invariant
