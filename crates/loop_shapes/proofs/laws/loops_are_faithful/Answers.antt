use Rattle.aml_sessions.specs.Ready.{AreItems}
use Rattle.loop_shapes.proofs.Faithful.{does_unswitched}
use Rattle.loop_shapes.proofs.laws.loops_are_faithful.Goals as goal

pub returns : goal.returns
returns c = λ width program bytes h locals faithful. does_unswitched (AreItems 0) ⊥ (Unit {0}) program h locals width bytes faithful
