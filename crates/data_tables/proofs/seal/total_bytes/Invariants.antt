use Rattle.std.proofs.Common.{◌≡◌, ◌^◌, ◌<◌, length, take}
use Rattle.data_tables.specs.Compiling.{joined}
use Rattle.data_tables.proofs.seal.total_bytes.Given as goal

abbrev pub invariant-loop-piece : goal.invariant-loop-piece
invariant-loop-piece l = record {
  total : l.total ≡ length (joined (take l.piece-index l.pieces));
  within : l.total < 2 ^ 32;
}
