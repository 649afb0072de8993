use Rattle.source_laws.proofs.Longest.{parts_of}
use Rattle.source_laws.proofs.laws.tokens_are_the_longest.Goals as goal

pub returns : goal.returns
returns c = parts_of
