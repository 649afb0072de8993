use Rattle.std.proofs.Common.{◌≡◌, ◌+◌, length}
use Rattle.iasl_messages.specs.Cut.{lines_of}
use Rattle.acpi_extract.specs.Dump.{dump_of}
use Rattle.acpi_extract.specs.Reading.{answer_with}
use Rattle.acpi_extract.proofs.dump.read.Given as goal

abbrev pub invariant-loop-line : goal.invariant-loop-line
invariant-loop-line l = record {
  count : l.reader.number + length (lines_of l.rest) ≡ length (lines_of l.text);
  answer : answer_with l.reader (lines_of l.rest) ≡ dump_of l.text;
}

abbrev pub decreases-loop-line : goal.decreases-loop-line
decreases-loop-line l = length (lines_of l.rest)
