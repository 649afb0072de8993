use Rattle.hidden_locals.proofs.Declared.{same_declarations}
use Rattle.hidden_locals.proofs.laws.loops_declare_the_same.Goals as goal

pub returns : goal.returns
returns c = same_declarations
