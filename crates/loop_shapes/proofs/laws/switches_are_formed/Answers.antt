use Rattle.loop_shapes.proofs.Rows.{choice_formed, choice_has_locals}
use Rattle.loop_shapes.proofs.laws.switches_are_formed.Goals as goal

pub returns-clause-formed : goal.returns-clause-formed
returns-clause-formed c = choice_formed

pub returns-clause-enough : goal.returns-clause-enough
returns-clause-enough c = choice_has_locals
