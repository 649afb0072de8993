use Rattle.loop_shapes.proofs.Folded.{where_locals}
use Rattle.loop_shapes.proofs.Named.{named_locals}
use Rattle.loop_shapes.proofs.laws.locals_stay.Goals as goal

pub returns-clause-named : goal.returns-clause-named
returns-clause-named c = named_locals

pub returns-clause-folded : goal.returns-clause-folded
returns-clause-folded c = where_locals
