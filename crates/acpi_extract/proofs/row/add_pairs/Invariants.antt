use Rattle.std.proofs.Common.{◌≡◌, ◌++◌, length}
use Rattle.std.specs.Option.{option_map}
use Rattle.acpi_extract.specs.Rows.{pairs_of}
use Rattle.acpi_extract.proofs.row.add_pairs.Given as goal

abbrev pub invariant-loop-byte : goal.invariant-loop-byte
invariant-loop-byte l = option_map (λ more. l.bytes.items ++ more) (pairs_of l.room l.rest) ≡ option_map (λ more. l.initial.bytes.items ++ more) (pairs_of 16 l.text)

abbrev pub decreases-loop-byte : goal.decreases-loop-byte
decreases-loop-byte l = length l.rest
