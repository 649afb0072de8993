use Rattle.std.proofs.Common.{◌++◌, arith, drop, ap, sym, ◌∙◌}
use Rattle.asl_syntax.specs.Nodes.{raw_in}
use Rattle.word_meanings.specs.Meanings.{meaning_of}
use Rattle.asl_terms.specs.AtRaw.{is_some}
use Rattle.literal_checks.specs.Literals.{is_first_wide, unless, told_at, told_item_at}
use Rattle.literal_checks.proofs.Told.{of_item, item_smaller, list_next, list_over}
use Rattle.literal_checks.proofs.check.+parts.Goals as goal

pub part-item-requires : goal.part-item-requires
part-item-requires t c = (grind (arith, c.decreases, item_smaller c.args.raw.now c.in-Item.place c.in-Item.word c.in-Item.args c.in-Item.body (sym c.raw.view_is ∙ ap raw_in c.in-Item.is)), tt)

pub part-returns-in_ok-item-in-Item : goal.part-returns-in_ok-item-in-Item
part-returns-in_ok-item-in-Item t c =
    let old = c.args.out.now.items in
    let args = c.in-Item.args in
    let body = c.in-Item.body in
    let meaning = c.meaning_of.ensures ∙ ap (meaning_of c.as_bytes.result.now) c.is_given.ensures ∙ ap (λ w. meaning_of w (is_some body)) c.as_bytes.ensures in
    c.in_ok-item-in-Item.ensures ∙ ap (λ m. old ++ told_item_at m args body) meaning
    ∙ ap (λ ms. old ++ ms) (sym (ap told_at (sym c.raw.view_is ∙ ap raw_in c.in-Item.is) ∙ of_item c.in-Item.place c.in-Item.word args body))

pub parts-loop-i-preserved : goal.parts-loop-i-preserved
parts-loop-i-preserved t c =
    let old = c.loop-i.out.items in
    let here = c.index-raws-i.result in
    let wide = is_first_wide (drop c.loop-i.i c.args.parameters.now) in
    let is = c.in_ok-unless_wide.ensures ∙ ap (λ b. old ++ unless b (told_at here)) c.is_wide_at.ensures ∙ ap (λ r. old ++ unless wide (told_at r)) c.index-raws-i.is in
    list_next c.args.parameters.now c.args.raws.now c.loop-i.i here old c.unless_wide.new.out.items _ c.loop-i-test.true c.loop-i.invariant is

pub parts-returns : goal.parts-returns
parts-returns t c = list_over c.args.parameters.now c.args.raws.now c.loop-i.i c.loop-i.out.items _ (omega arith) c.loop-i.invariant
