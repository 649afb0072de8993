use Rattle.std.proofs.Common.{◌≡◌, ◌%◌, sum, take}
use Rattle.data_tables.specs.Compiling.{joined}
use Rattle.data_tables.proofs.seal.pieces_sum.Given as goal

abbrev pub invariant-loop-piece : goal.invariant-loop-piece
invariant-loop-piece l = l.total ≡ sum (joined (take l.piece-index l.pieces)) % 256
