use Rattle.std.proofs.Common.{◌≡◌, drop}
use Rattle.asl_shape.specs.Forms.{stray_errors}
use Rattle.asl_shape.proofs.unit.add_stray.Given as goal

abbrev pub invariant-loop-raw : goal.invariant-loop-raw
invariant-loop-raw l = (l.faults.items ≡ l.initial.faults.items) × (stray_errors (drop l.raw-index l.raws) ≡ stray_errors l.raws)
