use Rattle.std.proofs.Common.{subst, ◌∙◌}
use Rattle.aml_sizes.specs.TableSizes.{RefusedFor, IsTooLong}
use Rattle.asl_tables.proofs.Written.{table_written, refused_written}
use Rattle.asl_tables.proofs.compile.write_core.Goals as goal

pub returns-in-Err-TooLong : goal.returns-in-Err-TooLong
returns-in-Err-TooLong c = λ also terms is.
    let block = c.args.block in
    let long : IsTooLong block c.args.style.short c.in-Err-TooLong.message = subst (RefusedFor block c.args.style.short) c.in-Err-TooLong.field-0-is c.in-Err-TooLong.ensures.refused in
    refused_written c.args.style c.args.lines.now also terms block c.in-Err-TooLong.message c.in_ok-one_message-in-Err-TooLong.field-0 is c.in_ok-one_message-in-Err-TooLong.ensures long

pub returns-in-Ok : goal.returns-in-Ok
returns-in-Ok c = λ also terms is.
    table_written c.args.style c.args.lines.now also terms c.args.block _ _ _ is (c.in_ok-signature.ensures ∙ c.as_bytes.ensures) (c.in_ok-own.ensures ∙ c.as_bytes-2.ensures) c.in-Ok.ensures.table c.in-Ok.ensures.cut
