use Rattle.std.proofs.Common.{◌≡◌, ◌∷◌, ◌+◌, take, drop, ap, sym, ◌∙◌}
use Rattle.iasl_messages.specs.Cut.{without_cr, lines_of}
use Rattle.iasl_messages.proofs.Cutting.{lines_first}
use Rattle.asl_preprocess.proofs.FileLines.{lines_then}
use Rattle.asl_preprocess.proofs.Parts.{line_front, end_at}
use Rattle.asl_preprocess.proofs.rows.cut_at.Goals as goal

pub returns-clause-cut : goal.returns-clause-cut
returns-clause-cut c =
    let text = c.args.text.now in
    let line : c.without_cr.result.now ≡ without_cr (take c.args.place text) = c.without_cr.ensures ∙ ap without_cr c.split_at.ensures.front in
    lines_then text c.without_cr.result.now c.split_at-2.result.1.now
    (lines_first text c.args.place c.requires.lf ∙ ap (λ l. l ∷ lines_of (drop (c.args.place + 1) text)) (sym line) ∙ ap (λ r. c.without_cr.result.now ∷ lines_of r) (sym c.split_at-2.ensures.back))

pub returns-clause-front : goal.returns-clause-front
returns-clause-front c = line_front c.args.place c.args.text.now c.without_cr.result.now (c.without_cr.ensures ∙ ap without_cr c.split_at.ensures.front)

pub returns-clause-end : goal.returns-clause-end
returns-clause-end c = end_at (c.args.place + 1) c.args.text.now c.split_at-2.result.1.now c.split_at-2.ensures.back
