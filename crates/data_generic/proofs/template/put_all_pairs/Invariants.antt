use Rattle.std.proofs.Common.{◌≡◌, ◌++◌, drop}
use Rattle.std.specs.List.{flat_map}
use Rattle.iasl_backends.specs.Table.{pair}
use Rattle.data_generic.proofs.template.put_all_pairs.Given as goal

abbrev pub invariant-loop-byte : goal.invariant-loop-byte
invariant-loop-byte l = l.out.items ++ flat_map pair (drop l.byte-index l.bytes) ≡ l.fn.out.items ++ flat_map pair l.bytes
