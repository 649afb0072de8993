use Rattle.std.proofs.Common.{ap, ◌∙◌, drop}
use Rattle.asl_prints.specs.Texts.{all_texts}
use Rattle.asl_prints.proofs.Filling.{filled_is}
use Rattle.asl_prints.proofs.filled.fills.Goals as goal

pub returns : goal.returns
returns c =
    c.both.ensures
    ∙ filled_is c.args.format.now c.args.args.now c.in_ok-texts.texts.items c.other_texts-behind.result.now c.are_given.result c.as_many.result (c.in_ok-texts.ensures ∙ ap all_texts c.as_bytes.ensures)
    (c.other_texts-behind.ensures ∙ ap (drop 1) c.as_slice.ensures.value) c.are_given.ensures c.as_many.ensures
