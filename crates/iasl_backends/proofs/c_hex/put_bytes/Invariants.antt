use Rattle.std.proofs.Common.{◌≡◌, ◌++◌, drop}
use Rattle.std.specs.List.{flat_map}
use Rattle.iasl_backends.specs.CText.{c_byte}
use Rattle.iasl_backends.proofs.c_hex.put_bytes.Given as goal

abbrev pub invariant-loop-byte : goal.invariant-loop-byte
invariant-loop-byte l = l.out.items ++ flat_map c_byte (drop l.byte-index l.row) ≡ l.initial.out.items ++ flat_map c_byte l.row
