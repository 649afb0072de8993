use Rattle.std.proofs.Common.{◌∙◌, ap}
use Rattle.asl_words.specs.Paths.{segment_of}
use Rattle.asl_words.proofs.PathLaws.{more_result}
use Rattle.asl_words.proofs.paths.+segments_in.Goals as goal

pub returns : goal.returns
returns t c =
    more_result c.args.most c.args.text.now c.in-Some.dot c.in-Some-segment_of.segment c.in_ok-others.others c.behind_segment.result c.if-most-eq0.false
    c.in-Some.ensures (c.in-Some-segment_of.ensures ∙ ap segment_of c.split_at.ensures.front) c.in_ok-others.ensures c.behind_segment.ensures
