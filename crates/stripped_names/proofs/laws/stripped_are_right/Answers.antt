use Rattle.stripped_names.proofs.Right.{stripped_terms, stripped_names, stripped_kinds}
use Rattle.stripped_names.proofs.laws.stripped_are_right.Goals as goal

pub returns-clause-terms : goal.returns-clause-terms
returns-clause-terms c = stripped_terms

pub returns-clause-names : goal.returns-clause-names
returns-clause-names c = stripped_names

pub returns-clause-kinds : goal.returns-clause-kinds
returns-clause-kinds c = stripped_kinds
