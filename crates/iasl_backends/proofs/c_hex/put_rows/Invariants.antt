use Rattle.std.proofs.Common.{◌≡◌, ◌++◌, length}
use Rattle.std.specs.List.{flat_map}
use Rattle.iasl_backends.specs.Table.{rows}
use Rattle.iasl_backends.specs.CText.{c_row}
use Rattle.iasl_backends.proofs.c_hex.put_rows.Given as goal

abbrev pub invariant-loop-rest : goal.invariant-loop-rest
invariant-loop-rest l = l.out.items ++ flat_map c_row (rows 8 l.rest) ≡ l.initial.out.items ++ flat_map c_row (rows 8 l.bytes)

abbrev pub decreases-loop-rest : goal.decreases-loop-rest
decreases-loop-rest l = length l.rest
