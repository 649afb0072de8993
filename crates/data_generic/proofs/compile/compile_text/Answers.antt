use Rattle.std.proofs.lemmas.Result.{err_from_is_err_and}
use Rattle.data_generic.proofs.Law.{header_refused}
use Rattle.data_generic.proofs.compile.compile_text.Goals as goal

pub returns-in_err-header : goal.returns-in_err-header
returns-in_err-header c =
    let p = err_from_is_err_and c.from_residual-in_err-header.result c.from_residual-in_err-header.ensures.1 in
    rw (p.1, p.2) (header_refused c.args.text c.in_ok-fields.fields c.as_slice.result.now c.in_err-header.field-0.0 c.as_slice.ensures c.in_ok-fields.ensures c.in_err-header.ensures)
