use Rattle.std.proofs.Common.{◌∙◌}
use Rattle.acpi_extract.specs.Rows.{pairs_of}
use Rattle.acpi_extract.proofs.Pairs.{push_pair}
use Rattle.acpi_extract.proofs.row.add_pairs.Goals as goal

pub loop-byte-preserved : goal.loop-byte-preserved
loop-byte-preserved c =
    push_pair c.loop-byte.bytes.items c.push.new.self.items c.in-Pair.byte (pairs_of c.loop-byte.room c.loop-byte.rest.now) _ c.in_ok-push-in-Pair.ensures.items c.in-Pair.ensures.2 ∙ c.loop-byte.invariant
