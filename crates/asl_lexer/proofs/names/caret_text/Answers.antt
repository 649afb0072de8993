use Rattle.std.proofs.Common.{◌+◌, ◌++◌, ◌∷◌, [], sym, ap, ◌∙◌, append_assoc, drop}
use Rattle.asl_lexer.specs.Scan.{caret_text}
use Rattle.asl_lexer.proofs.Steps.{caret_text_next}
use Rattle.asl_lexer.proofs.names.caret_text.Goals as goal

pub loop-place-preserved : goal.loop-place-preserved
loop-place-preserved c =
    let i = c.loop-place._place-index in
    let rest = caret_text (drop (i + 1) c.args.places.now) in
    ap (λ t. t ++ rest) c.in_ok-push.ensures.ok ∙ append_assoc c.loop-place.text (94 ∷ []) rest
    ∙ ap (λ t. c.loop-place.text ++ t) (sym (caret_text_next c.args.places.now i c.loop-place-test.true)) ∙ c.loop-place.invariant
