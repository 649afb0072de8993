use Rattle.aml_sessions.specs.Ready.{AreItems}
use Rattle.asl_fold.proofs.Formed.{kept_formed, kept_shaped}
use Rattle.asl_fold.proofs.laws.stays_shaped.Goals as goal

pub returns-clause-formed : goal.returns-clause-formed
returns-clause-formed c = kept_formed (AreItems 0) ⊥ (Unit {0})

pub returns-clause-shaped : goal.returns-clause-shaped
returns-clause-shaped c = kept_shaped
