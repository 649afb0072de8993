use Rattle.unused_names.proofs.Bare.{same_terms, same_whole, same_names, same_kinds}
use Rattle.unused_names.proofs.laws.numbers_do_not_matter.Goals as goal

pub returns-clause-terms : goal.returns-clause-terms
returns-clause-terms c = same_terms

pub returns-clause-whole : goal.returns-clause-whole
returns-clause-whole c = same_whole

pub returns-clause-names : goal.returns-clause-names
returns-clause-names c = same_names

pub returns-clause-kinds : goal.returns-clause-kinds
returns-clause-kinds c = same_kinds
