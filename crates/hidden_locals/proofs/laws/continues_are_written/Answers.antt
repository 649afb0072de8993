use Rattle.asl_meaning.proofs.Lasting.{lasting_call, lasting_all}
use Rattle.hidden_locals.proofs.laws.continues_are_written.Goals as goal

pub returns-clause-calls : goal.returns-clause-calls
returns-clause-calls c = lasting_call

pub returns-clause-terms : goal.returns-clause-terms
returns-clause-terms c = lasting_all
