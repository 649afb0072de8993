use Rattle.hidden_locals.proofs.Unswitched.{unswitched_does, same_unswitched}
use Rattle.hidden_locals.proofs.laws.switches_become_loops.Goals as goal

pub returns-clause-bodies : goal.returns-clause-bodies
returns-clause-bodies c = unswitched_does

pub returns-clause-programs : goal.returns-clause-programs
returns-clause-programs c = same_unswitched
