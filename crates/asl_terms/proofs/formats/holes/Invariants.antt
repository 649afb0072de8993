use Rattle.std.proofs.Common.{◌≡◌, ◌+◌, ◌≤◌, length}
use Rattle.asl_tree.specs.Formats.{cut}
use Rattle.asl_terms.proofs.formats.holes.Given as goal

abbrev pub invariant-loop-rest : goal.invariant-loop-rest
invariant-loop-rest l = record {
  counted : l.count + length (cut l.rest).1 ≡ length (cut l.fn.format).1;
  short : l.count + length l.rest ≤ length l.fn.format;
}

abbrev pub decreases-loop-rest : goal.decreases-loop-rest
decreases-loop-rest l = length l.rest
