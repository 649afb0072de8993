use Rattle.std.proofs.Common.{ap, ◌∙◌}
use Rattle.asl_prints.specs.Numbers.{number_behind}
use Rattle.asl_prints.proofs.PrintNumbers.{argument_has}
use Rattle.asl_prints.proofs.print.with_argument.Goals as goal

pub returns-clause-numbers : goal.returns-clause-numbers
returns-clause-numbers c ids =
    argument_has c.args.numbers.now c.concatenate.new.numbers c.with_text.new.numbers c.args.front c.args.argument.now c.in_ok-argument.argument c.in_ok-joined.joined c.in_ok-made.made ids c.args.text.now c.in_ok-argument.ensures.numbers c.in_ok-joined.ensures.numbers
    c.in_ok-made.ensures.numbers

pub returns-clause-down : goal.returns-clause-down
returns-clause-down c = ap number_behind c.in_ok-made.ensures.down ∙ c.in_ok-joined.ensures.down
