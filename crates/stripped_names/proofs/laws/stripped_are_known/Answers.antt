use Rattle.stripped_names.proofs.Right.{stripped_named, stripped_calls, stripped_index}
use Rattle.stripped_names.proofs.Forgotten.{forgotten_index}
use Rattle.stripped_names.proofs.laws.stripped_are_known.Goals as goal

pub returns-clause-named : goal.returns-clause-named
returns-clause-named c = stripped_named

pub returns-clause-calls : goal.returns-clause-calls
returns-clause-calls c = stripped_calls

pub returns-clause-index : goal.returns-clause-index
returns-clause-index c = stripped_index

pub returns-clause-forgotten : goal.returns-clause-forgotten
returns-clause-forgotten c = forgotten_index
