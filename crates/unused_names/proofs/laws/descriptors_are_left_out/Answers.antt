use Rattle.unused_names.proofs.Program.{names_stay, kinds_stay}
use Rattle.unused_names.proofs.laws.descriptors_are_left_out.Goals as goal

pub returns-clause-names : goal.returns-clause-names
returns-clause-names c = names_stay

pub returns-clause-kinds : goal.returns-clause-kinds
returns-clause-kinds c = kinds_stay
