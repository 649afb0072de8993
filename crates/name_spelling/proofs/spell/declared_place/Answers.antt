use Rattle.name_spelling.proofs.Turns.{tabled_more, flags_more}
use Rattle.name_spelling.proofs.spell.declared_place.Goals as goal

pub returns-in_ok-number-in-Some-clause-grows : goal.returns-in_ok-number-in-Some-clause-grows
returns-in_ok-number-in-Some-clause-grows c =
    let now = c.in_ok-number-in-Some.ensures in record {
      size = now.size;
      others = now.others;
      names = now.names;
      tables = tabled_more c.args.index.now.paths c.reach.new.index.paths c.args.calls.now c.len-before.ensures.distinct c.len-count.ensures.distinct now.others c.requires.short;
      kept = flags_more c.args.index.now.paths c.reach.new.index.paths c.args.also.now c.len-before.ensures.distinct c.len-count.ensures.distinct now.others c.requires.few;
    }
