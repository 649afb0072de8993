use Rattle.source_laws.proofs.Depths.{front_opens, one_depth, opens_front}
use Rattle.source_laws.proofs.laws.each_front_has_one_depth.Goals as goal

pub returns-clause-some : goal.returns-clause-some
returns-clause-some c = front_opens

pub returns-clause-one : goal.returns-clause-one
returns-clause-one c = one_depth

pub returns-clause-front : goal.returns-clause-front
returns-clause-front c = opens_front
