use Rattle.unused_names.proofs.Program.{named_left, denoted_left, calls_left, ends_left, flags_left}
use Rattle.unused_names.proofs.laws.names_are_found_once.Goals as goal

pub returns-clause-named : goal.returns-clause-named
returns-clause-named c = named_left

pub returns-clause-denoted : goal.returns-clause-denoted
returns-clause-denoted c = denoted_left

pub returns-clause-calls : goal.returns-clause-calls
returns-clause-calls c = calls_left

pub returns-clause-ends : goal.returns-clause-ends
returns-clause-ends c = ends_left

pub returns-clause-index : goal.returns-clause-index
returns-clause-index c = flags_left
