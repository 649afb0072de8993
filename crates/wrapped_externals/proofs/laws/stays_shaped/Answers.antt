use Rattle.wrapped_externals.proofs.Formed.{kept_shaped}
use Rattle.wrapped_externals.proofs.laws.stays_shaped.Goals as goal

pub returns : goal.returns
returns c = kept_shaped
