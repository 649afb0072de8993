use Rattle.asl_prints.specs.Numbers.{numbers_of}
use Rattle.asl_formats.proofs.StepNumbers.{before_next, before_other}
use Rattle.asl_formats.proofs.steps.before.Goals as goal

pub returns-then-is_next-clause-numbers : goal.returns-then-is_next-clause-numbers
returns-then-is_next-clause-numbers c k =
    before_next (numbers_of c.args.steps.now) c.args.copies.now c.put_steps.new.copies (numbers_of c.args.front.items) (numbers_of c.in_ok-all.all.items) c.args.node.now c.is_next.result c.is_next.ensures c.if-is_next.true (c.in_ok-all.ensures.numbers k)

pub returns-clause-numbers : goal.returns-clause-numbers
returns-clause-numbers c k = before_other (numbers_of c.args.steps.now) c.args.copies.now (numbers_of c.args.front.items) c.args.node.now c.is_next.result c.is_next.ensures c.if-is_next.false
