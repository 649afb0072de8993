use Rattle.asl_prints.proofs.Leaving.{a_name, no_name}
use Rattle.asl_prints.proofs.leave.is_name.Goals as goal

pub returns-in-Name : goal.returns-in-Name
returns-in-Name c = a_name c.args.term.now c.in-Name.field-0 c.in-Name.is

pub returns-in_default : goal.returns-in_default
returns-in_default c = no_name c.args.term.now c.in_default.not-Name
