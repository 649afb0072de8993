use Rattle.stripped_names.proofs.TagPlans.{table_descriptor}
use Rattle.stripped_names.proofs.laws.descriptors_are_named.Goals as goal

pub returns : goal.returns
returns c = λ ps whole path. table_descriptor ps path whole
