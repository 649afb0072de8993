use Rattle.std.proofs.Common.{◌%◌, ◌∙◌, ap, sum}
use Rattle.data_tables.proofs.Sums.{next_sum}
use Rattle.data_tables.proofs.seal.pieces_sum.Goals as goal

pub loop-piece-preserved : goal.loop-piece-preserved
loop-piece-preserved c =
    next_sum c.args.pieces.now c.loop-piece.piece-index c.piece-item.result c.loop-piece.total c.byte_sum-total.result c.loop-piece-test.true c.piece-item.is c.loop-piece.invariant (c.byte_sum-total.ensures ∙ ap (λ bs. sum bs % 256) c.as_bytes.ensures)
