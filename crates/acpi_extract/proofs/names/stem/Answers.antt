use Rattle.std.proofs.Common.{rules, arith}
use Rattle.acpi_extract.proofs.Ascii.{stem_ascii, stem_step}
use Rattle.acpi_extract.proofs.names.stem.Goals as goal

pub loop-byte-preserved : goal.loop-byte-preserved
loop-byte-preserved c =
    stem_step c.stem_text-byte-items.result.now _ _ _ _ c.loop-byte.byte-index _ c.stem_text-byte-items.ensures (stem_ascii c.args.signature.now c.requires) (omega arith) (search rules) c.in_ok-push.ensures.ascii c.loop-byte.invariant c.in_ok-push.ensures.bytes
