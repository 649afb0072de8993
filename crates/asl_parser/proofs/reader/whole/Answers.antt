use Rattle.std.proofs.lemmas.Result.{err_from_is_err_and}
use Rattle.asl_parser.proofs.Outcomes.{answers_fault, answers_trees}
use Rattle.asl_parser.proofs.reader.whole.Goals as goal

pub returns-in_err-read : goal.returns-in_err-read
returns-in_err-read c =
    let p = err_from_is_err_and c.from_residual.result c.from_residual.ensures.1 in
    rw (p.1, p.2) (answers_fault c.args.tokens.now c.in_err-read.field-0.0 c.in_err-read.ensures)

pub returns : goal.returns
returns c = answers_trees c.args.tokens.now c.in_ok-read.field-0 c.unit_of.result c.in_ok-read.ensures c.unit_of.ensures
