use Rattle.std.proofs.Common.{◌≡◌, length, take}
use Rattle.iasl_backends.specs.Table.{table_bytes}
use Rattle.iasl_tool.proofs.due.size_of.Given as goal

abbrev pub invariant-loop-piece : goal.invariant-loop-piece
invariant-loop-piece l = l.size ≡ length (table_bytes (take l.piece-index l.pieces))
