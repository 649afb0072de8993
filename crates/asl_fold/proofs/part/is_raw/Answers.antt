use Rattle.std.proofs.Common.{◌∙◌}
use Rattle.acpi_values.specs.Operators.{row_of}
use Rattle.asl_fold.proofs.Parts.{raw_found}
use Rattle.asl_fold.proofs.part.is_raw.Goals as goal

pub returns : goal.returns
returns c = c.is_raw_letter.ensures ∙ raw_found c.letters.result.now (row_of c.args.op).operands c.args.index c.letter_at.result c.letters.ensures c.letter_at.ensures
