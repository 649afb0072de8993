use Rattle.std.proofs.Common.{◌+◌, refl, arith}
use Rattle.aml_sizes.proofs.Encodings.{size_is}
use Rattle.aml_sizes.proofs.measure.measure_block.Goals as goal

pub returns-then-size-le-MOST_CONTENT_BYTES-clause-size : goal.returns-then-size-le-MOST_CONTENT_BYTES-clause-size
returns-then-size-le-MOST_CONTENT_BYTES-clause-size c =
    size_is c.args.block.now c.args.short c.content_size-size.result (36 + c.content_size-size.result) c.content_size-size.ensures (omega arith) refl
