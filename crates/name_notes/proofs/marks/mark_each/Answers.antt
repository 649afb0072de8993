use Rattle.name_notes.proofs.Marking.{marked_also, marked_each}
use Rattle.name_notes.proofs.marks.mark_each.Goals as goal

pub loop-number-preserved : goal.loop-number-preserved
loop-number-preserved c = record {
  sized = c.mark.ensures.sized;
  marked = λ test before. marked_also c.args.paths.now c.loop-number.flags.items c.mark.new.flags.items c.args.numbers.now c.loop-number.number-index c.scope_in.result test c.loop-number-test.true c.scope_in.ensures.path c.mark.ensures.marked
      (c.loop-number.invariant.marked test before);
}

pub returns-clause-marked : goal.returns-clause-marked
returns-clause-marked c test before = marked_each c.args.paths.now c.loop-number.flags.items c.args.numbers.now c.loop-number.number-index test c.loop-number-test.false (c.loop-number.invariant.marked test before)
