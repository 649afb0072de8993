use Rattle.unused_names.proofs.Main.{no_errors, no_types}
use Rattle.unused_names.proofs.laws.unused_are_dropped.Goals as goal

pub returns-clause-names : goal.returns-clause-names
returns-clause-names c = no_errors

pub returns-clause-kinds : goal.returns-clause-kinds
returns-clause-kinds c = no_types
