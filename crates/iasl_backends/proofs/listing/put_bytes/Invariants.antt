use Rattle.std.proofs.Common.{◌≡◌, ◌++◌, drop}
use Rattle.std.specs.List.{flat_map}
use Rattle.iasl_backends.specs.Listing.{listed_byte}
use Rattle.iasl_backends.proofs.listing.put_bytes.Given as goal

abbrev pub invariant-loop-byte : goal.invariant-loop-byte
invariant-loop-byte l = l.out.items ++ flat_map listed_byte (drop l.byte-index l.row) ≡ l.initial.out.items ++ flat_map listed_byte l.row
