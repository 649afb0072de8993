use Rattle.std.proofs.Common.{ap, sym, ◌∙◌}
use Rattle.asl_preprocess.specs.Rows.{rows_of}
use Rattle.asl_preprocess.proofs.Unmarked.{marked_rows}
use Rattle.asl_preprocess.proofs.rows.may_direct.Goals as goal

pub returns-then-enabled : goal.returns-then-enabled
returns-then-enabled c =
    let bytes = c.args.bytes.now in
    ap (λ b. rows_of b bytes) c.is_some.ensures ∙ marked_rows bytes c.memchr.result c.memchr.ensures ∙ ap (λ b. rows_of b bytes) (sym c.if-enabled.true)
