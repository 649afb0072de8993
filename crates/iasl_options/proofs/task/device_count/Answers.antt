use Rattle.std.proofs.Common.{◌≡◌, true, rules, arith}
use Rattle.std.proofs.lemmas.Bool.Decides.{nat_tests}
use Rattle.iasl_options.specs.Task.{begins_number}
use Rattle.iasl_options.proofs.Counts.{few_read}
use Rattle.iasl_options.proofs.task.device_count.Goals as goal

pub returns-then-count-le-MOST_DEVICES : goal.returns-then-count-le-MOST_DEVICES
returns-then-count-le-MOST_DEVICES c =
    let front : begins_number c.args.word.now ≡ true = search rules in
    few_read c.args.word.now c.parse.result c.in-Ok.count front c.parse.ensures.value.0 c.in-Ok.is (grind (arith, nat_tests))
