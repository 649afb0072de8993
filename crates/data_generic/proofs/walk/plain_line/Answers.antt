use Rattle.data_generic.proofs.Found.{plain_found, plain_fault}
use Rattle.data_generic.proofs.walk.plain_line.Goals as goal

pub returns-in-Some : goal.returns-in-Some
returns-in-Some c = plain_found c.args.form c.args.line.now c.as_slice.result.now c.in_ok-bytes.field-0 c.in-Some.bytes c.as_slice.ensures c.in_ok-bytes.ensures c.in-Some.is

pub returns-in-None : goal.returns-in-None
returns-in-None c = plain_fault c.args.form c.args.line.now c.as_slice.result.now c.in_ok-bytes.field-0 c.message_of.result c.as_slice.ensures c.in_ok-bytes.ensures c.in-None.is c.message_of.ensures
