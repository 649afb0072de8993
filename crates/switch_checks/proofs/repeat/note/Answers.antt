use Rattle.switch_checks.proofs.Same.{value_eq, same_value}
use Rattle.switch_checks.proofs.Notes.{noted_one}
use Rattle.switch_checks.proofs.repeat.note.Goals as goal

pub returns : goal.returns
returns c =
    noted_one value_eq same_value c.args.value c.args.seen.now.keys c.insert_full.new.self.keys c.args.place c.in_ok-is_new.is_new c.args.out.now c.tell_if.new.out c.in_ok-is_new.ensures.keys c.in_ok-is_new.ensures.added c.in_ok-tell_if.ensures
