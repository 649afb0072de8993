use Rattle.std.proofs.Common.{◌≡◌, take}
use Rattle.data_tables.specs.Compiling.{joined}
use Rattle.data_tables.proofs.front.joined_bytes.Given as goal

abbrev pub invariant-loop-piece : goal.invariant-loop-piece
invariant-loop-piece l = l.bytes.items ≡ joined (take l.piece-index l.pieces)
