use Rattle.stripped_names.proofs.Stripped.{terms_left}
use Rattle.stripped_names.proofs.laws.stripped_are_left.Goals as goal

pub returns : goal.returns
returns c = terms_left
