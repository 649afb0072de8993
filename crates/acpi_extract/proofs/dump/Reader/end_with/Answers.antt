use Rattle.std.proofs.Common.{◌∙◌, []}
use Rattle.acpi_extract.proofs.Taking.{if_ok, if_err, halts_along}
use Rattle.acpi_extract.proofs.dump.Reader.end_with.Goals as goal

pub returns-in-Ok-clause-tables : goal.returns-in-Ok-clause-tables
returns-in-Ok-clause-tables c = if_ok c.end.result (λ tables e. c.in-Ok.ensures.taken [] ∙ e) c.end.ensures.tables

pub returns-in-Ok-clause-refused : goal.returns-in-Ok-clause-refused
returns-in-Ok-clause-refused c = if_err c.end.result (λ halt h. halts_along halt _ _ (c.in-Ok.ensures.taken []) h) c.end.ensures.refused

pub returns-in-Err-clause-refused : goal.returns-in-Err-clause-refused
returns-in-Err-clause-refused c = c.in-Err.ensures.refused []
