use Rattle.std.proofs.Common.{arith}
use Rattle.std.proofs.lemmas.Grind.{text_counts}
use Rattle.acpi_extract.proofs.names.next_number.Goals as goal

pub returns-clause-counts : goal.returns-clause-counts
returns-clause-counts c = λ other. grind (arith, text_counts)
