use Rattle.std.proofs.Common.{map, string_bytes}
use Rattle.iasl_runs.specs.EndLaws.{ends}
use Rattle.acpi_extract.specs.Due.{answer_for, fault_text, memory_text}
use Rattle.acpi_extract.proofs.Answered.{carries_out}
use Rattle.acpi_extract.proofs.run.extract.Goals as goal

pub returns : goal.returns
returns g c =
    carries_out (map string_bytes c.args.words.now) c.finish.result _ _
    (ends (answer_for (map string_bytes c.args.words.now)) fault_text memory_text c.finish.result _ _ _ _ _ _ c.decide-decided.result c.decide-decided.ensures c.finish.ensures)
