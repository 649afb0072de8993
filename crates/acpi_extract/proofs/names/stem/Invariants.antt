use Rattle.std.proofs.Common.{◌≡◌, take, string_bytes}
use Rattle.acpi_extract.specs.Dump.{stem_of}
use Rattle.acpi_extract.proofs.names.stem.Given as goal

abbrev pub invariant-loop-byte : goal.invariant-loop-byte
invariant-loop-byte l = string_bytes l.stem ≡ take l.byte-index (stem_of l.signature)
