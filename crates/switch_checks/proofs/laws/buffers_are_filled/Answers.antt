use Rattle.switch_checks.proofs.Filled.{same_filled}
use Rattle.switch_checks.proofs.laws.buffers_are_filled.Goals as goal

pub returns : goal.returns
returns c = same_filled
