use Rattle.std.proofs.Common.{arith}
use Rattle.data_tables.proofs.Put.{put_set, put_past}
use Rattle.data_tables.proofs.seal.put_at.Goals as goal

pub returns-then-place-len : goal.returns-then-place-len
returns-then-place-len c =
    put_set c.args.pieces.now.items c.args.place c.index_mut-piece.result.now c.args.bytes (omega arith) c.index_mut-piece.ensures.value

pub returns-else-place-len : goal.returns-else-place-len
returns-else-place-len c = put_past c.args.pieces.now.items c.args.place c.args.bytes (omega arith)
