use Rattle.std.proofs.Common.{◌≡◌, ◌+◌, ◌<◌, ◌^◌, ◌++◌, length}
use Rattle.iasl_backends.specs.Table.{rows}
use Rattle.iasl_backends.specs.Listing.{listed_rows}
use Rattle.iasl_backends.proofs.listing.put_rows.Given as goal

abbrev pub invariant-loop-rest : goal.invariant-loop-rest
invariant-loop-rest l = record {
  room : l.at + length l.rest < 2 ^ 64;
  text : l.out.items ++ listed_rows l.at (rows 16 l.rest) ≡ l.initial.out.items ++ listed_rows l.offset (rows 16 l.bytes);
}

abbrev pub decreases-loop-rest : goal.decreases-loop-rest
decreases-loop-rest l = length l.rest
