use Rattle.hidden_locals.proofs.Rows.{rows, unswitchable}
use Rattle.hidden_locals.proofs.laws.loops_of_switches.Goals as goal

pub returns-clause-written : goal.returns-clause-written
returns-clause-written c = rows

pub returns-clause-may : goal.returns-clause-may
returns-clause-may c = unswitchable
