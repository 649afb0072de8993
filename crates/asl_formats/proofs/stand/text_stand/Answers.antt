use Rattle.asl_formats.proofs.Standing.{first_stands}
use Rattle.asl_formats.proofs.stand.text_stand.Goals as goal

pub returns-in_ok-stand-in-len1-up : goal.returns-in_ok-stand-in-len1-up
returns-in_ok-stand-in-len1-up c =
    first_stands c.args.args.now c.others.result.now c.format-item.result c.in_ok-stand-in-len1-up.stand c.in-len1-up.len_at_least c.format-item.is c.others.ensures c.in_ok-stand-in-len1-up.ensures
