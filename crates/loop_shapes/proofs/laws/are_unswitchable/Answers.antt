use Rattle.aml_sessions.specs.Ready.{AreItems}
use Rattle.loop_shapes.proofs.Unswitchable.{unswitchable}
use Rattle.loop_shapes.proofs.laws.are_unswitchable.Goals as goal

pub returns : goal.returns
returns c = unswitchable (AreItems 0) ⊥ (Unit {0})
