use Rattle.std.proofs.Common.{◌∷◌, [], length, ap, sym, subst, ◌∙◌}
use Rattle.std.proofs.Math.Seq.{take-length, drop-length}
use Rattle.iasl_messages.proofs.Cutting.{lines_whole}
use Rattle.asl_preprocess.specs.Rows.{file_lines}
use Rattle.asl_preprocess.specs.Cuts.{IsFront}
use Rattle.asl_preprocess.proofs.FileLines.{lines_last}
use Rattle.asl_preprocess.proofs.Parts.{front_is, end_at, first_lf, first_lf_within, lacks_lf}
use Rattle.asl_preprocess.proofs.rows.any_line.Goals as goal

pub cut_at-requires : goal.cut_at-requires
cut_at-requires c = record {
  lf = first_lf c.args.text.now c.in-Some.place c.in-Some.ensures;
  within = first_lf_within c.args.text.now c.in-Some.place c.in-Some.ensures;
}

pub returns-in-None-clause-cut : goal.returns-in-None-clause-cut
returns-in-None-clause-cut c =
    let text = c.args.text.now in
    lines_last text c.requires (lines_whole text (lacks_lf text c.in-None.ensures))
    ∙ ap (λ l. l ∷ []) (sym (take-length text) ∙ sym c.split_at.ensures.front)
    ∙ ap (λ r. c.split_at.result.0.now ∷ file_lines r) (sym (drop-length text) ∙ sym c.split_at.ensures.back)

pub returns-in-None-clause-front : goal.returns-in-None-clause-front
returns-in-None-clause-front c =
    let text = c.args.text.now in
    subst (λ l. IsFront l text) (sym c.split_at.ensures.front) (front_is (length text) text)

pub returns-in-None-clause-end : goal.returns-in-None-clause-end
returns-in-None-clause-end c = end_at (length c.args.text.now) c.args.text.now c.split_at.result.1.now c.split_at.ensures.back
