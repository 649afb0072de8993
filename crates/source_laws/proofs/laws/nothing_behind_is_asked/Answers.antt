use Rattle.source_laws.proofs.Conditionals.{nothing_behind}
use Rattle.source_laws.proofs.laws.nothing_behind_is_asked.Goals as goal

pub returns : goal.returns
returns c = nothing_behind
