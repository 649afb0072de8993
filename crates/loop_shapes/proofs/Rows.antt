-- The premises of the laws hold of a Switch.
use Rattle.std.proofs.Common.{refl, arith}
use Rattle.aml_sessions.specs.Ready.{AreItems}
use Rattle.named_sessions.specs.Shaped.{AreFormed}
use Rattle.hidden_locals.specs.Switches.{HaveLocals}
use Rattle.loop_shapes.specs.Rows.{choice}

pub choice_formed : AreFormed ⊥ (AreItems 0) ⊥ (Unit {0}) choice
choice_formed = ((tt, refl, omega arith, (tt, ((refl, tt), tt, tt), ((tt, (tt, tt)), (tt, tt, tt), ((refl, tt), tt, tt)))), tt, tt)

pub choice_has_locals : HaveLocals choice
choice_has_locals = (omega arith, (((tt, tt), ((tt, tt), ((tt, tt), tt))), tt))
