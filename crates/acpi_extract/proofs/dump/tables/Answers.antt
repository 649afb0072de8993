use Rattle.acpi_extract.proofs.Told.{is_read, is_refused, is_found, is_only, is_fault, is_first}
use Rattle.acpi_extract.proofs.dump.tables.Goals as goal

pub returns-clause-tables : goal.returns-clause-tables
returns-clause-tables c = is_read c.args.text.now c.answer.result c.answer.ensures

pub returns-clause-refused : goal.returns-clause-refused
returns-clause-refused c = is_refused c.args.text.now c.answer.result c.answer.ensures

pub returns-clause-found : goal.returns-clause-found
returns-clause-found c = is_found c.args.text.now c.answer.result c.answer.ensures

pub returns-clause-only : goal.returns-clause-only
returns-clause-only c = λ others dump. is_only c.args.text.now c.answer.result c.answer.ensures others dump

pub returns-clause-fault : goal.returns-clause-fault
returns-clause-fault c = is_fault c.args.text.now c.answer.result c.answer.ensures

pub returns-clause-first : goal.returns-clause-first
returns-clause-first c = λ fault has. is_first c.args.text.now c.answer.result c.answer.ensures fault has
