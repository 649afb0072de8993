use Rattle.hidden_locals.proofs.Named.{unnamed_unseen, calls_alike}
use Rattle.hidden_locals.proofs.laws.unnamed_locals_are_unseen.Goals as goal

pub returns-clause-terms : goal.returns-clause-terms
returns-clause-terms c = unnamed_unseen

pub returns-clause-calls : goal.returns-clause-calls
returns-clause-calls c = calls_alike
