use Rattle.asl_tables.proofs.Findings.{told_by, beside_by}
use Rattle.asl_tables.proofs.compile.compile_item.Given as goal

abbrev pub ghost-compile_noted : goal.ghost-compile_noted
ghost-compile_noted a = (told_by a.checked.names, beside_by a.checked.names)
