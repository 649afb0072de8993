use Rattle.std.proofs.Common.{arith}
use Rattle.iasl_messages.proofs.Cutting.{count_lines}
use Rattle.acpi_extract.proofs.due.answer.Goals as goal

pub tables-requires : goal.tables-requires
tables-requires c = omega (arith, count_lines c.args.text.now)
