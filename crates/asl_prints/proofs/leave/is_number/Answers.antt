use Rattle.asl_prints.proofs.Leaving.{a_number, a_word, no_number}
use Rattle.asl_prints.proofs.leave.is_number.Goals as goal

pub returns-in-Integer : goal.returns-in-Integer
returns-in-Integer c = a_number c.args.term.now c.in-Integer.field-0 c.in-Integer.is

pub returns-in-Word : goal.returns-in-Word
returns-in-Word c = a_word c.args.term.now c.in-Word.field-0 c.in-Word.is

pub returns-in_default : goal.returns-in_default
returns-in_default c = no_number c.args.term.now c.in_default.not-Integer c.in_default.not-Word
