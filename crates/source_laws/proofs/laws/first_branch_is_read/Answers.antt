use Rattle.source_laws.proofs.Conditionals.{read_as_tree}
use Rattle.source_laws.proofs.laws.first_branch_is_read.Goals as goal

pub returns : goal.returns
returns c = read_as_tree
