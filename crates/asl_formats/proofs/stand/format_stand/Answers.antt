use Rattle.asl_tree.specs.View.{trees_of}
use Rattle.asl_formats.proofs.Standing.{text_stands}
use Rattle.asl_formats.proofs.stand.format_stand.Goals as goal

pub returns-in_ok-filled-in-Text : goal.returns-in_ok-filled-in-Text
returns-in_ok-filled-in-Text c =
    text_stands c.args.format.now c.in-Text.text (trees_of c.args.args.now) c.in_ok-filled-in-Text.filled c.text_if.result c.in-Text.is c.in_ok-filled-in-Text.ensures c.text_if.ensures
