use Rattle.hidden_locals.proofs.Operators.{blind_act}
use Rattle.hidden_locals.proofs.laws.operators_are_blind.Goals as goal

pub returns : goal.returns
returns c = blind_act
