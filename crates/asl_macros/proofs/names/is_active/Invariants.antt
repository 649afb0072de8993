use Rattle.std.proofs.Common.{◌≡◌, map, drop}
use Rattle.asl_macros.specs.Replacement.{is_active}
use Rattle.asl_macros.proofs.names.is_active.Given as goal

abbrev pub invariant-loop-other : goal.invariant-loop-other
invariant-loop-other l = is_active (map (λ other. other.now) (drop l.other-index l.active)) l.name ≡ is_active (map (λ other. other.now) l.active) l.name
