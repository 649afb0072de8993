use Rattle.source_laws.proofs.Wholes.{files_whole}
use Rattle.source_laws.proofs.laws.files_are_whole.Goals as goal

pub returns : goal.returns
returns c = files_whole
