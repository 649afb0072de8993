use Rattle.asl_prints.proofs.Leaving.{named_first}
use Rattle.asl_prints.proofs.leave.named_with.Goals as goal

pub returns-in-len1-up : goal.returns-in-len1-up
returns-in-len1-up c =
    named_first c.args.args.now c.others-rest.result.now c.args.count c.name-item.result c.is_name.result c.are.result c.are_numbers.result c.all.result c.in-len1-up.len_at_least c.name-item.is c.others-rest.ensures
    c.is_name.ensures c.are.ensures c.are_numbers.ensures c.all.ensures
