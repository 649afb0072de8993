use Rattle.hex_text.proofs.Decoded.{byte_found, no_byte}
use Rattle.hex_text.proofs.digits.byte_of.Goals as goal

pub returns-in-Ok : goal.returns-in-Ok
returns-in-Ok c = byte_found c.in-Ok.field-0 c.args.high c.args.low c.decode_to_slice.new.out c.in-Ok.ensures.value

pub returns-in-Err : goal.returns-in-Err
returns-in-Err c = no_byte c.in-Err.field-0 c.args.high c.args.low c.decode_to_slice.new.out c.in-Err.ensures.value
