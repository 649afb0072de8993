use Rattle.std.proofs.Common.{◌≡◌, drop}
use Rattle.asl_terms.specs.AtRaw.{are_types_at}
use Rattle.asl_terms.proofs.leaf.are_types.Given as goal

abbrev pub invariant-loop-raw : goal.invariant-loop-raw
invariant-loop-raw l = are_types_at (drop l.raw-index l.raws) ≡ are_types_at l.raws
