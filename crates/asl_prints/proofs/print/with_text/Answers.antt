use Rattle.std.proofs.Common.{◌≡◌, length, ap, ◌∙◌, arith}
use Rattle.asl_prints.specs.PrintNumbers.{numbers_behind}
use Rattle.asl_prints.proofs.PrintNumbers.{text_joins_none, text_joins_some, text_some_has}
use Rattle.asl_prints.proofs.print.with_text.Goals as goal

pub returns-then-is_empty-clause-down : goal.returns-then-is_empty-clause-down
returns-then-is_empty-clause-down c =
    let empty : length c.args.text.now ≡ 0 = grind (arith, c.is_empty.ensures, c.if-is_empty.true, ap length c.as_bytes.ensures) in
    ap (λ n. numbers_behind n c.args.numbers.now.down) (text_joins_none c.args.text.now empty)

pub returns-clause-numbers : goal.returns-clause-numbers
returns-clause-numbers c ids =
    text_some_has c.args.numbers.now c.text_node-behind.new.numbers c.concatenate.new.numbers c.args.front c.text_node-behind.result c.in_ok-made.made ids c.args.text.now (λ e. grind (arith, e, c.is_empty.ensures, c.if-is_empty.false, ap length c.as_bytes.ensures))
    c.text_node-behind.ensures.numbers c.text_node-behind.ensures.up c.text_node-behind.ensures.down c.in_ok-made.ensures.numbers

pub returns-clause-down : goal.returns-clause-down
returns-clause-down c =
    ap (λ n. numbers_behind n c.concatenate.new.numbers.down) (text_joins_some c.args.text.now (λ e. grind (arith, e, c.is_empty.ensures, c.if-is_empty.false, ap length c.as_bytes.ensures)))
    ∙ c.in_ok-made.ensures.down ∙ c.text_node-behind.ensures.down
